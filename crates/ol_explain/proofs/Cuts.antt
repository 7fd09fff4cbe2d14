-- Where a line breaks off, told by its fields.
use Rattle.std.proofs.Common.{◌≡◌, ◌≢◌, ℕ, ◌+◌, ◌<◌, ◌≤◌, Bool, true, false}
use Rattle.std.proofs.Common.{List, [], ◌∷◌, ◌++◌, append_assoc, length, length-append, length-drop, drop, Option, None, Some}
use Rattle.std.proofs.Common.{inl, inr, refl, sym, ap, ◌∙◌, subst, arith}
use Rattle.std.specs.Prelude.{codes}
use Rattle.std.specs.List.{slice_range}
use Rattle.std.specs.Fmt.{decimal}
use Rattle.std.proofs.lemmas.List.{append-nil, append_cancel_right, drop-drop}
use Rattle.std.proofs.lemmas.List.Folds.{drop_split}
use Rattle.ol_net.specs.declared.parts.Rule.{Rule}
use Rattle.ol_net.specs.declared.parts.Rule.TheVariants as rule
use Rattle.ol_rules.specs.declared.journal.NodeName.{NodeName}
use Rattle.ol_rules.specs.declared.journal.NodeName.TheVariants.{Init}
use Rattle.ol_rules.specs.Names.{comes_before}
use Rattle.ol_view.specs.declared.forms.Form.{Form}
use Rattle.ol_view.specs.declared.forms.Form.TheVariants.{One, Two}
use Rattle.ol_view.specs.TraceTexts.{name_text, line_text, MayBeWritten}
use Rattle.ol_view.specs.RuleNames.{rule_text}
use Rattle.ol_view.specs.Checks.{HasNoLine}
use Rattle.ol_explain.specs.declared.wanting.Field.{Field}
use Rattle.ol_explain.specs.declared.wanting.Field.TheVariants as field
use Rattle.ol_explain.specs.declared.wanting.Fault.TheVariants as fault
use Rattle.ol_explain.specs.Afters.{line_with}
use Rattle.ol_explain.specs.Wanted.{IsLine, IsWanted, IsWhole, BreaksOff, AreThose, empty, with, without, bytes_at, greater_at}
use Rattle.ol_view.specs.Forms.{header_of, line_of, BeginsWithEntry}
use Rattle.ol_explain.specs.Fields.{IsField, Begins, AreFields, FieldsFollow, pair, GoesOn, IsEnd, IsCut, AreAt, IsFault, cut, whole, IsBrokenBy, IsBadBy, unordered}
use Rattle.ol_explain.proofs.Breaks.{Parts, short, long, parts, same_rest, apart}

-- ---- one field

some_field : (f : Field) → (u : List ℕ) × IsField f u
some_field field.Header = (codes "ol trace 1", (One, refl))
some_field field.Rule = (rule_text rule.Beta, (rule.Beta, refl))
some_field field.Number = (decimal 0, (0, omega arith, refl))
some_field field.Name = (name_text (Init 0), (Init 0, omega arith, refl))

pub begins_empty : (f : Field) → Begins f []
begins_empty f = some_field f

some_fields : (fs : List (Field × ℕ)) → (w : List ℕ) × AreFields fs w
some_fields [] = ([], refl)
some_fields (f ∷ fs) =
    let u = some_field f.0 in
    let w = some_fields fs in
    (u.0 ++ f.1 ∷ w.0, (u.0, w.0, u.1, w.1, refl))

module _ (f : Field) (c : ℕ) (end : IsEnd f c) (read : List ℕ) (b : ℕ) where
  goes : (m more u w : List ℕ) → IsField f (read ++ m) → IsField f u → Parts read (b ∷ more) u (c ∷ w) →
      GoesOn f c read b
  goes m more u w h i (short [] p q) =
      inr (subst (λ u. IsField f u) (p ∙ append-nil read) i, (let z : b ≡ c = cc in z))
  goes m more u w h i (short (d ∷ m') p q) =
      let z : b ≡ d = cc in
      inl (m', subst (λ u. IsField f u) (p ∙ ap (λ d. read ++ d ∷ m') (sym z) ∙ sym (append_assoc read (b ∷ []) m')) i)
  goes m more u w h i (long [] p q) =
      inr (subst (λ u. IsField f u) (sym (p ∙ append-nil u)) i, (let z : b ≡ c = cc in z))
  goes m more u w h i (long (d ∷ m') p q) =
      let z : c ≡ d = cc in
      absurd (apart f u c (m' ++ m) i (subst (λ r. IsField f r)
      (ap (λ (r : List ℕ). r ++ m) (p ∙ ap (λ d. u ++ d ∷ m') (sym z)) ∙ append_assoc u (c ∷ m') m) h) end)

  pub goes_on : (fs : List (Field × ℕ)) (more : List ℕ) → Begins f read →
      AreFields ((f, c) ∷ fs) (read ++ b ∷ more) → GoesOn f c read b
  goes_on fs more (m, h) (u, w, i, is, e) = goes m more u w h i (parts read (b ∷ more) u (c ∷ w) e)

  pub may_go_on : (fs : List (Field × ℕ)) → GoesOn f c read b →
      (more : List ℕ) × AreFields ((f, c) ∷ fs) (read ++ b ∷ more)
  may_go_on fs (inl (m, i)) =
      let w = some_fields fs in (
        m ++ c ∷ w.0,
        (
          (read ++ b ∷ []) ++ m,
          w.0,
          i,
          w.1,
          sym (append_assoc (read ++ b ∷ []) m (c ∷ w.0) ∙ append_assoc read (b ∷ []) (m ++ c ∷ w.0)),
        ),
      )
  may_go_on fs (inr (i, e)) =
      let w = some_fields fs in
      (w.0, (read, w.0, i, w.1, ap (λ b. read ++ b ∷ w.0) e))

some_byte : (f : Field) (c : ℕ) (read m : List ℕ) → IsField f (read ++ m) → (b : ℕ) × GoesOn f c read b
some_byte f c read [] h = (c, inr (subst (λ u. IsField f u) (append-nil read) h, refl))
some_byte f c read (d ∷ m) h = (d, inl (m, subst (λ u. IsField f u) (sym (append_assoc read (d ∷ []) m)) h))

-- ---- the fields of a line

pub one_field : FieldsFollow None [] ((field.Header, 10) ∷ [])
one_field t = (there, back)
  where
    there : IsLine None t → AreFields ((field.Header, 10) ∷ []) t
    there (One, e) = (codes "ol trace 1", [], (One, refl), refl, e)
    there (Two, e) = (codes "ol trace 2", [], (Two, refl), refl, e)

    back : AreFields ((field.Header, 10) ∷ []) t → IsLine None t
    back (u, w, (form, h), is, e) = (form, e ∙ ap (λ (w : List ℕ). u ++ 10 ∷ w) is ∙ sym h)

names_back : (t : List ℕ) → AreFields pair t →
    (x : NodeName) × (y : NodeName) × MayBeWritten x × MayBeWritten y × (t ≡ line_text x y)
names_back t (u, w, (x, m, i), (v, z, (y, m', i'), is, e'), e) = (
  x,
  y,
  m,
  m',
  e ∙ ap (λ (u : List ℕ). u ++ 32 ∷ w) i ∙ ap (λ (w : List ℕ). name_text x ++ 32 ∷ w)
      (e' ∙ ap (λ (v : List ℕ). v ++ 10 ∷ z) i' ∙ ap (λ (z : List ℕ). name_text y ++ 10 ∷ z) is),
)

names_there : (x y : NodeName) → MayBeWritten x → MayBeWritten y → AreFields pair (line_text x y)
names_there x y m m' =
    (name_text x, name_text y ++ 10 ∷ [], (x, m, refl), (name_text y, [], (y, m', refl), refl, refl), refl)

pub two_names : FieldsFollow (Some One) [] pair
two_names t = (there, back)
  where
    there : IsLine (Some One) t → AreFields pair t
    there (e, wave, may, q) = subst (λ t. AreFields pair t) (sym q) (names_there e.first e.second may.0 may.1)

    back : AreFields pair t → IsLine (Some One) t
    back h = let n = names_back t h in
        (record { rule = rule.Beta; first = n.0; second = n.1 }, 0, (n.2, n.3, omega arith), n.4)

pub four_fields : FieldsFollow (Some Two) [] ((field.Rule, 32) ∷ (field.Number, 32) ∷ pair)
four_fields t = (there, back)
  where
    there : IsLine (Some Two) t → AreFields ((field.Rule, 32) ∷ (field.Number, 32) ∷ pair) t
    there (e, wave, may, q) = (
      rule_text e.rule,
      decimal wave ++ 32 ∷ line_text e.first e.second,
      (e.rule, refl),
      (
        decimal wave,
        line_text e.first e.second,
        (wave, may.2, refl),
        names_there e.first e.second may.0 may.1,
        refl,
      ),
      q,
    )

    back : AreFields ((field.Rule, 32) ∷ (field.Number, 32) ∷ pair) t → IsLine (Some Two) t
    back (u, w, (r, i), (v, z, (n, l, i'), is, e'), e) =
        let h = names_back z is in (
          record { rule = r; first = h.0; second = h.1 },
          n,
          (h.2, h.3, l),
          e ∙ ap (λ (u : List ℕ). u ++ 32 ∷ w) i ∙ ap (λ (w : List ℕ). rule_text r ++ 32 ∷ w)
              (e' ∙ ap (λ (v : List ℕ). v ++ 32 ∷ z) i' ∙ ap (λ (z : List ℕ). decimal n ++ 32 ∷ z) h.4),
        )

-- one field more is in front
pub behind : (form : Option Form) (front : List ℕ) (f : Field) (c : ℕ) (fs : List (Field × ℕ)) (u : List ℕ) →
    FieldsFollow form front ((f, c) ∷ fs) → IsField f u → IsEnd f c → FieldsFollow form (front ++ (u ++ c ∷ [])) fs
behind form front f c fs u left h end t = (there, back)
  where
    q : (front ++ (u ++ c ∷ [])) ++ t ≡ front ++ (u ++ c ∷ t)
    q = append_assoc front (u ++ c ∷ []) t ∙ ap (λ (s : List ℕ). front ++ s) (append_assoc u (c ∷ []) t)

    rest : AreFields ((f, c) ∷ fs) (u ++ c ∷ t) → AreFields fs t
    rest (v, w, i, is, e) = subst (λ t. AreFields fs t) (sym (same_rest f u v c t w h i end e)) is

    there : IsLine form ((front ++ (u ++ c ∷ [])) ++ t) → AreFields fs t
    there l = rest ((left (u ++ c ∷ t)).0 (subst (λ s. IsLine form s) q l))

    back : AreFields fs t → IsLine form ((front ++ (u ++ c ∷ [])) ++ t)
    back is = subst (λ s. IsLine form s) (sym q) ((left (u ++ c ∷ t)).1 (u, t, h, is, refl))

-- ---- the break

pub those : (P Q : ℕ → Type 0) → ((b : ℕ) → P b → Q b) → ((b : ℕ) → Q b → P b) →
    (n : ℕ) (bytes : List ℕ) → AreThose P n bytes → AreThose Q n bytes
those P Q to from n bytes empty = empty
those P Q to from n bytes (with {n = m} {bytes = bs} h p) = with (those P Q to from m bs h) (to m p)
those P Q to from n bytes (without {n = m} {bytes = bs} h p) = without (those P Q to from m bs h) (λ q. p (from m q))

module _ (form : Option Form) (text : List ℕ) (at : ℕ) (f : Field) (end start : ℕ)
    (k : IsCut form text at f end start) (to : ℕ) (from : start ≤ to) (within : to ≤ length text)
    (begins : Begins f (slice_range text start to))
    (ends : to < length text → Begins f (slice_range text start (to + 1)) → ⊥) where
  abbrev pub read : List ℕ
  read = slice_range text start to

  abbrev pub start_of : List ℕ
  start_of = k.front ++ read

  is_wanted : (b : ℕ) → GoesOn f end read b → IsWanted form start_of b
  is_wanted b g =
      let m = may_go_on f end k.is_end read b k.more g in
      (m.0, subst (λ s. IsLine form s) (sym (append_assoc k.front read (b ∷ m.0))) ((k.left (read ++ b ∷ m.0)).1 m.1))

  may_follow : (b : ℕ) → IsWanted form start_of b → GoesOn f end read b
  may_follow b w = goes_on f end k.is_end read b k.more w.0 begins
      ((k.left (read ++ b ∷ w.0)).0 (subst (λ s. IsLine form s) (append_assoc k.front read (b ∷ w.0)) w.1))

  there : drop start text ≡ read ++ drop to text
  there = drop_split text start to from

  next : (b : ℕ) (more : List ℕ) → drop to text ≡ b ∷ more → slice_range text start (to + 1) ≡ read ++ b ∷ []
  next b more e =
      let rest : drop (to + 1) text ≡ more = sym (drop-drop 1 to text) ∙ ap (λ (s : List ℕ). drop 1 s) e in
      append_cancel_right (slice_range text start (to + 1)) (read ++ b ∷ []) more
      (ap (λ (s : List ℕ). slice_range text start (to + 1) ++ s) (sym rest)
      ∙ sym (drop_split text start (to + 1) (omega arith)) ∙ there
      ∙ ap (λ (s : List ℕ). read ++ s) e ∙ sym (append_assoc read (b ∷ []) more))

  no_more : (b : ℕ) (more : List ℕ) → drop to text ≡ b ∷ more → GoesOn f end read b → ⊥
  no_more b more e (inl g) = ends
      (let z = ap length e in let y = length-drop to text in omega arith)
      (subst (λ s. Begins f s) (sym (next b more e)) g)
  no_more b more e (inr (i, q)) = k.cut read more i
      (there ∙ ap (λ (s : List ℕ). read ++ s) e ∙ ap (λ b. read ++ b ∷ more) q)

  breaks : BreaksOff form (drop at text) start_of
  breaks = record {
    after = drop to text;
    text_is = k.text_is ∙ ap (λ (s : List ℕ). k.front ++ s) there ∙ sym (append_assoc k.front read (drop to text));
    begins = let s = some_byte f end read begins.0 begins.1 in (s.0, is_wanted s.0 s.1);
    breaks = λ b more e w. no_more b more e (may_follow b w);
  }

  sized : at + length start_of ≡ to
  sized =
      let s = k.start_is in
      let l = length-append k.front read in
      let n = length-append read (drop to text) in
      let d = length-drop start text in
      let d' = length-drop to text in
      let t = ap length there in
      omega arith

  pub broken_by : (bytes : List ℕ) → AreThose (GoesOn f end read) 256 bytes → (line : ℕ) (out : List ℕ) →
      out ≡ line_with (codes "bad text at line ") line ++ bytes_at to bytes ++ codes "\n" →
      IsBrokenBy form text at line out
  broken_by bytes are line out e = record {
    before = start_of;
    bytes = bytes;
    breaks = breaks;
    wanted = those (GoesOn f end read) (IsWanted form start_of) is_wanted may_follow 256 bytes are;
    out_is = e ∙ ap (λ at. line_with (codes "bad text at line ") line ++ bytes_at at bytes ++ codes "\n") (sym sized);
  }

-- ---- the names of a line

pub names_of_one : (text : List ℕ) (at : ℕ) → AreAt One text at at
names_of_one text at = record {
  front = [];
  start_is = omega arith;
  text_is = refl;
  left = two_names;
  rule = rule.Beta;
  wave = 0;
  wave_may = omega arith;
  line = λ x y. refl;
}

-- a place behind a piece of the text
pub place_behind : (text u : List ℕ) (c at to : ℕ) → at ≤ length text → to ≤ length text →
    drop at text ≡ u ++ c ∷ drop to text → to ≡ at + length (u ++ c ∷ [])
place_behind text u c at to l l' e =
    let d = length-drop at text in
    let d' = length-drop to text in
    let z = ap length e in
    let y = length-append u (c ∷ drop to text) in
    let w = length-append u (c ∷ []) in
    omega arith

module _ (form : Form) (text : List ℕ) (at : ℕ) (within : at ≤ length text) where
  -- a line breaks off in its first field
  pub cut_first : (f : Field) (c : ℕ) (fs : List (Field × ℕ)) → FieldsFollow (Some form) [] ((f, c) ∷ fs) → IsEnd f c →
      ((u w : List ℕ) → IsField f u → drop at text ≢ u ++ c ∷ w) → IsFault form text at (fault.Cut f c at)
  cut_first f c fs left end other = cut (record {
    front = [];
    more = fs;
    start_is = omega arith;
    within = within;
    text_is = refl;
    left = left;
    is_end = end;
    cut = other;
  })

-- what stands behind one field more
pub piece_behind : (text front u : List ℕ) (c at start to : ℕ) → drop at text ≡ front ++ drop start text →
    drop start text ≡ u ++ c ∷ drop to text → drop at text ≡ (front ++ (u ++ c ∷ [])) ++ drop to text
piece_behind text front u c at start to e e' = e ∙ ap (λ (s : List ℕ). front ++ s)
    (e' ∙ sym (append_assoc u (c ∷ []) (drop to text))) ∙ sym (append_assoc front (u ++ c ∷ []) (drop to text))

module _ (form : Form) (text : List ℕ) (at start : ℕ) (a : AreAt form text at start) (within : start ≤ length text) where
  -- it breaks off in the first name
  pub first_cut : ((u w : List ℕ) → IsField field.Name u → drop start text ≢ u ++ 32 ∷ w) →
      IsFault form text at (fault.Cut field.Name 32 start)
  first_cut other = cut (record {
    front = a.front;
    more = (field.Name, 10) ∷ [];
    start_is = a.start_is;
    within = within;
    text_is = a.text_is;
    left = a.left;
    is_end = inr refl;
    cut = other;
  })

  module _ (x : NodeName) (to : ℕ) (may : MayBeWritten x) (within' : to ≤ length text)
      (e : drop start text ≡ name_text x ++ 32 ∷ drop to text) where
    abbrev pub front_of : List ℕ
    front_of = a.front ++ (name_text x ++ 32 ∷ [])

    place : to ≡ at + length front_of
    place =
        let p = place_behind text (name_text x) 32 start to within within' e in
        let s = a.start_is in
        let y = length-append a.front (name_text x ++ 32 ∷ []) in
        omega arith

    text_of : drop at text ≡ front_of ++ drop to text
    text_of = piece_behind text a.front (name_text x) 32 at start to a.text_is e

    -- in the second
    pub second_cut : ((u w : List ℕ) → IsField field.Name u → drop to text ≢ u ++ 10 ∷ w) →
        IsFault form text at (fault.Cut field.Name 10 to)
    second_cut other = cut (record {
      front = front_of;
      more = [];
      start_is = place;
      within = within';
      text_is = text_of;
      left = behind (Some form) a.front field.Name 32 ((field.Name, 10) ∷ []) (name_text x) a.left (x, may, refl) (inr refl);
      is_end = inl refl;
      cut = other;
    })

    -- or nowhere
    pub all_there : (y : NodeName) (end : ℕ) → MayBeWritten y →
        drop to text ≡ name_text y ++ 10 ∷ drop end text → IsFault form text at (fault.Unordered x to)
    all_there y end may' e' =
        let last : List ℕ = name_text y ++ 10 ∷ [] in
        let line : line_of form (record { rule = a.rule; first = x; second = y }) a.wave ≡ front_of ++ last =
        a.line x y ∙ sym (append_assoc a.front (name_text x ++ 32 ∷ []) last
        ∙ ap (λ (s : List ℕ). a.front ++ s) (append_assoc (name_text x) (32 ∷ []) last)) in
        whole {before = front_of} {second = y} (record {
          entry = record { rule = a.rule; first = x; second = y };
          wave = a.wave;
          may = (may, may', a.wave_may);
          more = drop end text;
          text_is = text_of ∙ ap (λ (s : List ℕ). front_of ++ s)
              (e' ∙ sym (append_assoc (name_text y) (10 ∷ []) (drop end text)))
              ∙ sym (append_assoc front_of last (drop end text))
              ∙ ap (λ (s : List ℕ). s ++ drop end text) (sym line);
          before_is = line;
          first_is = refl;
          second_is = refl;
        }) place

-- ---- what stands before the names in the second form

module _ (text : List ℕ) (at wave names : ℕ) (r : Rule) (n : ℕ) (l : at ≤ length text) (l' : wave ≤ length text)
    (e : drop at text ≡ rule_text r ++ 32 ∷ drop wave text) where
  left_two : FieldsFollow (Some Two) (rule_text r ++ 32 ∷ []) ((field.Number, 32) ∷ pair)
  left_two = behind (Some Two) [] field.Rule 32 ((field.Number, 32) ∷ pair) (rule_text r) four_fields (r, refl) (inr refl)

  text_two : drop at text ≡ (rule_text r ++ 32 ∷ []) ++ drop wave text
  text_two = e ∙ sym (append_assoc (rule_text r) (32 ∷ []) (drop wave text))

  pub wave_cut : ((u w : List ℕ) → IsField field.Number u → drop wave text ≢ u ++ 32 ∷ w) →
      IsFault Two text at (fault.Cut field.Number 32 wave)
  wave_cut other = cut (record {
    front = rule_text r ++ 32 ∷ [];
    more = pair;
    start_is = place_behind text (rule_text r) 32 at wave l l' e;
    within = l';
    text_is = text_two;
    left = left_two;
    is_end = inr refl;
    cut = other;
  })

  pub names_of_two : names ≤ length text → n ≤ 4294967295 → drop wave text ≡ decimal n ++ 32 ∷ drop names text →
      AreAt Two text at names
  names_of_two m may e' = record {
    front = (rule_text r ++ 32 ∷ []) ++ (decimal n ++ 32 ∷ []);
    start_is =
        let p = place_behind text (rule_text r) 32 at wave l l' e in
        let q = place_behind text (decimal n) 32 wave names l' m e' in
        let y = length-append (rule_text r ++ 32 ∷ []) (decimal n ++ 32 ∷ []) in
        omega arith;
    text_is = piece_behind text (rule_text r ++ 32 ∷ []) (decimal n) 32 at wave names text_two e';
    left = behind (Some Two) (rule_text r ++ 32 ∷ []) field.Number 32 pair (decimal n) left_two (n, may, refl) (inr refl);
    rule = r;
    wave = n;
    wave_may = may;
    line = λ x y. sym (append_assoc (rule_text r ++ 32 ∷ []) (decimal n ++ 32 ∷ []) (line_text x y)
        ∙ append_assoc (rule_text r) (32 ∷ []) ((decimal n ++ 32 ∷ []) ++ line_text x y)
        ∙ ap (λ (s : List ℕ). rule_text r ++ 32 ∷ s) (append_assoc (decimal n) (32 ∷ []) (line_text x y)));
  }

-- the names of a whole line that is none of the grammar aren't in order
pub no_order : (form : Form) (text before : List ℕ) (first second : NodeName) → HasNoLine form text →
    IsWhole form text before first second → comes_before first second ≡ false
no_order form text before first second none w = go (comes_before first second) refl
  where
    begins : (f : Form) → text ≡ line_of f w.entry w.wave ++ w.more → comes_before w.entry.first w.entry.second ≡ true →
        BeginsWithEntry f text w.entry w.wave w.more
    begins f e o = record { begins = e; wave_may = w.may.2; names_may = (w.may.0, w.may.1); ordered = o }

    go : (v : Bool) → comes_before first second ≡ v → comes_before first second ≡ false
    go false e = e
    go true e = absurd (none w.entry w.wave w.more (begins form w.text_is
        (ap (λ x. comes_before x w.entry.second) w.first_is ∙ ap (λ y. comes_before first y) w.second_is ∙ e)))

-- ---- what a fault is

pub header_cut : (text : List ℕ) → ((form : Form) (rest : List ℕ) → text ≢ header_of form ++ rest) →
    IsCut None text 0 field.Header 10 0
header_cut text other = record {
  front = [];
  more = [];
  start_is = refl;
  within = omega arith;
  text_is = refl;
  left = one_field;
  is_end = refl;
  cut = λ u w h e. other h.0 w (e ∙ sym (append_assoc u (10 ∷ []) w) ∙ ap (λ (s : List ℕ). s ++ w) (sym h.1));
}

pub cut_of : (form : Form) (text : List ℕ) (at : ℕ) (f : Field) (end start : ℕ) →
    IsFault form text at (fault.Cut f end start) → IsCut (Some form) text at f end start
cut_of form text at f end start (cut k) = k

pub unordered_of : (form : Form) (text : List ℕ) (at : ℕ) (first : NodeName) (start line : ℕ) (out : List ℕ) →
    HasNoLine form (drop at text) → IsFault form text at (fault.Unordered first start) →
    out ≡ line_with (codes "bad text at line ") line ++ greater_at start first ++ codes "\n" →
    IsBadBy form text at line out
unordered_of form text at first start line out none (whole {before = b} {second = y} w e) o =
    unordered w (no_order form (drop at text) b first y none w)
    (o ∙ ap (λ at. line_with (codes "bad text at line ") line ++ greater_at at first ++ codes "\n") e)

-- pieces of an answer
pub told : (b0 b1 b2 l w d x c n : List ℕ) → b0 ≡ l ++ w ++ d ++ x → b1 ≡ b0 ++ c → b2 ≡ b1 ++ n →
    b2 ≡ l ++ (w ++ d ++ x ++ c) ++ n
told b0 b1 b2 l w d x c n e0 e1 e2 =
    let q : l ++ w ++ d ++ x ≡ l ++ (w ++ d ++ x) = ap (λ (s : List ℕ). s ++ x) (append_assoc l w d)
    ∙ append_assoc l (w ++ d) x in
    e2 ∙ ap (λ (s : List ℕ). s ++ n) (e1 ∙ ap (λ (s : List ℕ). s ++ c) (e0 ∙ q) ∙ append_assoc l (w ++ d ++ x) c)
