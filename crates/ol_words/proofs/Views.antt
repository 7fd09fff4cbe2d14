-- The words of a line, by what the first of them is.
use Rattle.std.proofs.Common.{◌≡◌, ◌∙◌, sym, ap, refl, false, Bool, List, [], ◌∷◌, Option, Some}
use Rattle.std.proofs.Common.{None, option_map, if◌then◌else◌, codes, inl, inr, subst}
use Rattle.std.proofs.lemmas.Slice.Eq.{bytes_eq-Decides}
use Rattle.ol_words.specs.Texts.{Text}
use Rattle.ol_words.specs.Lines.{Known, Line, after_option, is_dashed, is_end, line_from, option_of, with_name, with_option}
use Rattle.std.proofs.lemmas.Bool.{cases_Bool}

mapped : (f : Line → Line) (r : Option Line) (line : Line) → option_map f r ≡ Some line →
    (l : Line) × (r ≡ Some l) × (f l ≡ line)
mapped f None line e = absurd (cc)
mapped f (Some l) line e = (l, refl, cc)

pub data View (known : Known) : List Text → Line → Type 0 where
  nothing : View known [] (record { options = []; names = [] })
  ended : (rest : List Text) → View known (codes "--" ∷ rest) (record { options = []; names = rest })
  plain : (word : Text) (rest : List Text) (line : Line) → is_dashed word ≡ false →
      line_from known None rest ≡ Some line → View known (word ∷ rest) (with_name word line)
  written : (word : Text) (rest : List Text) (line : Line) (option value : Text) →
      is_end word ≡ false → option_of known word ≡ Some (option, Some value)
      → line_from known None rest ≡ Some line → View known (word ∷ rest) (with_option option value line)
  waits : (word value : Text) (rest : List Text) (line : Line) (option : Text) →
      is_end word ≡ false → option_of known word ≡ Some (option, None) → is_dashed value ≡ false
      → line_from known None rest ≡ Some line → View known (word ∷ value ∷ rest) (with_option option value line)

module _ (known : Known) (word : Text) (line : Line) (goes : is_end word ≡ false) where
  view_value : (rest : List Text) (o : Text) → option_of known word ≡ Some (o, None) →
      line_from known (Some o) rest ≡ Some line → View known (word ∷ rest) line
  unfolding line_from
  view_value [] o is e = absurd (cc)
  view_value (value ∷ rest) o is e = elim (cases_Bool (is_dashed value)) [
    | inl dashed ↦ absurd (nothing (sym (ap
        (λ b. if b then None else option_map (with_option o value) (line_from known None rest)) dashed) ∙ e))
    | inr is_plain ↦
        let read = mapped (with_option o value) (line_from known None rest) line
        (sym (ap (λ b. if b then None else option_map (with_option o value)
        (line_from known None rest)) is_plain) ∙ e) in
        subst (λ l. View known (word ∷ value ∷ rest) l) read.2 (waits word value rest read.0 o goes is is_plain read.1)
  ]
    where
      nothing : ◌≡◌ {A = Option Line} None (Some line) → ⊥
      nothing x = cc

  view_option : (rest : List Text) (found : Option (Text × Option Text)) → option_of known word ≡ found
      → after_option found (λ option. line_from known (Some option) rest)
      (line_from known None rest) ≡ Some line → View known (word ∷ rest) line
  view_option rest None is e = absurd (cc)
  view_option rest (Some (o, None)) is e = view_value rest o is e
  view_option rest (Some (o, Some v)) is e =
      let read = mapped (with_option o v) (line_from known None rest) line e in
      subst (λ l. View known (word ∷ rest) l) read.2 (written word rest read.0 o v goes is read.1)

module _ (known : Known) (word : Text) (rest : List Text) (line : Line) where
  view_word : line_from known None (word ∷ rest) ≡ Some line → View known (word ∷ rest) line
  unfolding line_from
  view_word e =
      let dashed_or_name = λ (b : Bool). if b then after_option (option_of known word)
      (λ option. line_from known (Some option) rest) (line_from known None rest)
      else option_map (with_name word) (line_from known None rest) in
      let all : Option Line = Some (record { options = []; names = rest }) in
      elim (cases_Bool (is_end word)) [
        | inl ends ↦
            let is : all ≡ Some line = sym (ap (λ b. if b then all else dashed_or_name (is_dashed word)) ends) ∙ e in
            let same : ◌≡◌ {A = Line} (record { options = []; names = rest }) line = cc in
            let marks : codes "--" ≡ word = sym ((bytes_eq-Decides word (codes "--")).0 ends) in
            subst (λ l. View known (word ∷ rest) l) same
            (subst (λ w. View known (w ∷ rest) (record { options = []; names = rest })) marks (ended rest))
        | inr goes ↦
            let read_on : dashed_or_name (is_dashed word) ≡ Some line = sym
            (ap (λ b. if b then all else dashed_or_name (is_dashed word)) goes) ∙ e in
            elim (cases_Bool (is_dashed word)) [
              | inl dashed ↦ view_option known word line goes rest (option_of known word) refl
                  (sym (ap dashed_or_name dashed) ∙ read_on)
              | inr is_plain ↦
                  let read = mapped (with_name word) (line_from known None rest) line
                  (sym (ap dashed_or_name is_plain) ∙ read_on) in
                  subst (λ l. View known (word ∷ rest) l) read.2 (plain word rest read.0 is_plain read.1)
            ]
      ]

pub view : (known : Known) (words : List Text) (line : Line) →
    line_from known None words ≡ Some line → View known words line
unfolding line_from
view known [] line e =
    let same : ◌≡◌ {A = Line} (record { options = []; names = [] }) line = cc in
    subst (λ l. View known [] l) same nothing
view known (word ∷ rest) line e = view_word known word rest line e
