-- A line of either form that is read stands there, and one that stands there is read.
use Rattle.std.proofs.Common.{◌≡◌, ℕ, ◌≤◌, Bool, true, false, if◌then◌else◌, eqb, List, [], ◌∷◌, ◌++◌, append_assoc}
use Rattle.std.proofs.Common.{length, drop, Option, None, Some, refl, sym, ap, ◌∙◌, subst, arith}
use Rattle.std.specs.List.{starts_with}
use Rattle.std.specs.Prelude.{option_and_then, option_map}
use Rattle.std.specs.Fmt.{decimal}
use Rattle.std.proofs.lemmas.Bool.Decides.{Decides-eqb}
use Rattle.std.proofs.lemmas.Slice.Eq.{starts_is}
use Rattle.ol_net.specs.declared.parts.Rule.{Rule}
use Rattle.ol_net.specs.declared.parts.Rule.TheVariants as rule
use Rattle.ol_rules.specs.declared.journal.NodeName.{NodeName}
use Rattle.ol_rules.specs.declared.journal.Entry.{Entry}
use Rattle.ol_view.specs.declared.forms.Form.{Form}
use Rattle.ol_view.specs.declared.forms.Form.TheVariants.{One, Two}
use Rattle.ol_view.specs.TraceTexts.{line_text}
use Rattle.ol_view.specs.RuleNames.{rule_text}
use Rattle.ol_view.specs.EachForm.{BeginsWithLine}
use Rattle.ol_view.specs.Forms.{line_of, BeginsWithEntry}
use Rattle.ol_view.specs.Checks.{HasNoLine}
use Rattle.ol_view.specs.Standing.{told_of}
use Rattle.ol_view.specs.LineReading.{front_number, behind, front_line, word_behind, first_of, front_rule_of, all_rules}
use Rattle.ol_view.specs.LineReading.{front_rule, told_end, told_on, front_told, told_with, front_entry, TellsOf}
use Rattle.ol_view.proofs.Numerals.{number_complete, front_sound, behind_sound, line_sound, line_complete}

abbrev pub Read : Type 0
Read = Option (Option (Rule × ℕ) × NodeName × NodeName × List ℕ)

-- ---- names of rules

word_sound : (word bs rest : List ℕ) → word_behind word bs ≡ Some rest → bs ≡ word ++ rest
word_sound word bs rest e = go (starts_with eqb bs word) refl e
  where
    go : (v : Bool) → v ≡ starts_with eqb bs word →
        (if v then Some (drop (length word) bs) else None) ≡ Some rest → bs ≡ word ++ rest
    go true i e = let z : drop (length word) bs ≡ rest = cc in
        (starts_is Decides-eqb bs word true i).0 refl ∙ ap (λ rest. word ++ rest) z
    go false i e = absurd (cc)

pub rule_sound : (rs : List Rule) (bs : List ℕ) (r : Rule) (rest : List ℕ) →
    front_rule_of rs bs ≡ Some (r, rest) → bs ≡ rule_text r ++ rest
rule_sound [] bs r rest e = absurd (cc)
rule_sound (q ∷ rs) bs r rest e = go (λ e. rule_sound rs bs r rest e) (word_behind (rule_text q) bs) refl e
  where
    go : (front_rule_of rs bs ≡ Some (r, rest) → bs ≡ rule_text r ++ rest) → (o : Option (List ℕ)) →
        word_behind (rule_text q) bs ≡ o → first_of (option_map (λ (rest : List ℕ). (q, rest)) o)
        (front_rule_of rs bs) ≡ Some (r, rest) → bs ≡ rule_text r ++ rest
    go ih None i e = ih e
    go ih (Some bs') i e =
        let z : ◌≡◌ {A = Rule × List ℕ} (q, bs') (r, rest) = cc in
        word_sound (rule_text q) bs bs' i ∙ ap (λ (p : Rule × List ℕ). rule_text p.0 ++ p.1) z

rule_complete : (r : Rule) (rest : List ℕ) → front_rule (rule_text r ++ 32 ∷ rest) ≡ Some (r, 32 ∷ rest)
rule_complete rule.Beta rest = refl
rule_complete rule.Fan rest = refl
rule_complete rule.Croissant rest = refl
rule_complete rule.Bracket rest = refl
rule_complete rule.CrossFan rest = refl
rule_complete rule.CrossCroissant rest = refl
rule_complete rule.CrossBracket rest = refl
rule_complete rule.Erase rest = refl

-- ---- what stands before the names

record IsToldRead (text : List ℕ) (t : Option (Rule × ℕ)) (rest : List ℕ) : Type 0 where
  rule : Rule
  wave : ℕ
  told : t ≡ Some (rule, wave)
  begins : text ≡ rule_text rule ++ (32 ∷ decimal wave ++ 32 ∷ rest)
  may : wave ≤ 4294967295

told_sound : (text : List ℕ) (t : Option (Rule × ℕ)) (rest : List ℕ) →
    front_told Two text ≡ Some (t, rest) → IsToldRead text t rest
told_sound text t rest e = first (front_rule text) refl e
  where
    third : (r : Rule) (bs : List ℕ) (w : ℕ × List ℕ) → text ≡ rule_text r ++ 32 ∷ bs →
        (bs ≡ decimal w.0 ++ w.1) × (w.0 ≤ 4294967295) → (o : Option (List ℕ)) → behind 32 w.1 ≡ o →
        option_map {U = Option (Rule × ℕ) × List ℕ} (λ (bs : List ℕ). (Some (r, w.0), bs)) o ≡ Some
        (t, rest) → IsToldRead text t rest
    third r bs w h n None i e = absurd (cc)
    third r bs w h n (Some cs) i e =
        let z : ◌≡◌ {A = Option (Rule × ℕ) × List ℕ} (Some (r, w.0), cs) (t, rest) = cc in
        record {
          rule = r;
          wave = w.0;
          told = sym (ap (λ (p : Option (Rule × ℕ) × List ℕ). p.0) z);
          begins = h ∙ ap (λ bs. rule_text r ++ 32 ∷ bs)
              (n.0 ∙ ap (λ bs. decimal w.0 ++ bs) (behind_sound 32 w.1 cs i
              ∙ ap (λ (p : Option (Rule × ℕ) × List ℕ). 32 ∷ p.1) z));
          may = n.1;
        }

    second : (r : Rule) (bs : List ℕ) → text ≡ rule_text r ++ 32 ∷ bs → (o : Option (ℕ × List ℕ)) →
        front_number bs ≡ o → option_and_then (told_end r) o ≡ Some (t, rest) → IsToldRead text t rest
    second r bs h None i e = absurd (cc)
    second r bs h (Some w) i e = third r bs w h (front_sound bs w.0 w.1 i) (behind 32 w.1) refl e

    space : (r : Rule) (es : List ℕ) → text ≡ rule_text r ++ es → (o : Option (List ℕ)) →
        behind 32 es ≡ o → option_and_then (λ (bs : List ℕ).
        option_and_then (told_end r) (front_number bs)) o ≡ Some (t, rest) → IsToldRead text t rest
    space r es h None i e = absurd (cc)
    space r es h (Some bs) i e = second r bs
        (h ∙ ap (λ es. rule_text r ++ es) (behind_sound 32 es bs i)) (front_number bs) refl e

    first : (o : Option (Rule × List ℕ)) → front_rule text ≡ o →
        option_and_then told_on o ≡ Some (t, rest) → IsToldRead text t rest
    first None i e = absurd (cc)
    first (Some r) i e = space r.0 r.1 (rule_sound all_rules text r.0 r.1 i) (behind 32 r.1) refl e

told_complete : (r : Rule) (wave : ℕ) (rest : List ℕ) → wave ≤ 4294967295 →
    front_told Two (rule_text r ++ (32 ∷ decimal wave ++ 32 ∷ rest)) ≡ Some (Some (r, wave), rest)
told_complete r wave rest h =
    ap (λ o. option_and_then told_on o) (rule_complete r (decimal wave ++ 32 ∷ rest))
    ∙ ap (λ o. option_and_then (told_end r) o) (number_complete wave 32 rest h refl)

-- ---- lines

-- what a line that is read tells, and what follows what stands before its names
record IsLineRead (form : Form) (text : List ℕ) (t : Option (Rule × ℕ)) (a b : NodeName) (rest : List ℕ) : Type 0 where
  names : List ℕ
  told : front_told form text ≡ Some (t, names)
  line : BeginsWithLine names a b rest

line_read : (form : Form) (text : List ℕ) (t : Option (Rule × ℕ)) (a b : NodeName) (rest : List ℕ) →
    ◌≡◌ {A = Read} (front_entry form text) (Some (t, a, b, rest)) → IsLineRead form text t a b rest
line_read form text t a b rest e = first (front_told form text) refl e
  where
    second : (s : Option (Rule × ℕ)) (names : List ℕ) → front_told form text ≡ Some (s, names) →
        (o : Option (NodeName × NodeName × List ℕ)) → front_line names ≡ o →
        ◌≡◌ {A = Read} (option_map (λ (l : NodeName × NodeName × List ℕ). (s, l.0, l.1, l.2)) o)
        (Some (t, a, b, rest)) → IsLineRead form text t a b rest
    second s names h None i e = absurd (cc)
    second s names h (Some l) i e =
        let z : ◌≡◌ {A = Option (Rule × ℕ) × NodeName × NodeName × List ℕ} (s, l.0, l.1, l.2) (t, a, b, rest) = cc in
        let es : s ≡ t = ap (λ (p : Option (Rule × ℕ) × NodeName × NodeName × List ℕ). p.0) z in
        let ea : l.0 ≡ a = ap (λ (p : Option (Rule × ℕ) × NodeName × NodeName × List ℕ). p.1) z in
        let eb : l.1 ≡ b = ap (λ (p : Option (Rule × ℕ) × NodeName × NodeName × List ℕ). p.2) z in
        let er : l.2 ≡ rest = ap (λ (p : Option (Rule × ℕ) × NodeName × NodeName × List ℕ). p.3) z in
        record {
          names = names;
          told = h ∙ ap (λ s. Some (s, names)) es;
          line = line_sound names a b rest (i ∙ ap (λ a. Some (a, l.1, l.2)) ea
              ∙ ap (λ b. Some (a, b, l.2)) eb ∙ ap (λ rest. Some (a, b, rest)) er);
        }

    first : (o : Option (Option (Rule × ℕ) × List ℕ)) → front_told form text ≡ o →
        ◌≡◌ {A = Read} (option_and_then told_with o) (Some (t, a, b, rest)) → IsLineRead form text t a b rest
    first None i e = absurd (cc)
    first (Some s) i e = second s.0 s.1 i (front_line s.1) refl e

abbrev entry : Rule → NodeName → NodeName → Entry
entry r a b = record { rule = r; first = a; second = b }

-- a line that is read, of a rule and a wave that it tells or doesn't tell
pub line_there : (form : Form) (text : List ℕ) (t : Option (Rule × ℕ)) (a b : NodeName)
    (rest : List ℕ) → ◌≡◌ {A = Read} (front_entry form text) (Some (t, a, b, rest)) →
    (r : Rule) (wave : ℕ) → TellsOf t r wave → text ≡ line_of form (entry r a b) wave ++ rest
line_there One text t a b rest e r wave h =
    let l = line_read One text t a b rest e in
    let z : ◌≡◌ {A = Option (Rule × ℕ) × List ℕ} (None, text) (t, l.names) = (let y = l.told in cc) in
    ap (λ (p : Option (Rule × ℕ) × List ℕ). p.1) z ∙ l.line.begins
line_there Two text t a b rest e r wave h =
    let l = line_read Two text t a b rest e in
    let d = told_sound text t l.names l.told in
    let i : (d.rule ≡ r) × (d.wave ≡ wave) = subst (λ t. TellsOf t r wave) d.told h in
    d.begins ∙ ap (λ r. rule_text r ++ (32 ∷ decimal d.wave ++ 32 ∷ l.names)) i.0
    ∙ ap (λ wave. rule_text r ++ (32 ∷ decimal wave ++ 32 ∷ l.names)) i.1
    ∙ ap (λ names. rule_text r ++ (32 ∷ decimal wave ++ 32 ∷ names)) l.line.begins
    ∙ sym (append_assoc (rule_text r) (32 ∷ decimal wave ++ (32 ∷ line_text a b)) rest
    ∙ ap (λ bs. rule_text r ++ 32 ∷ bs) (append_assoc (decimal wave) (32 ∷ line_text a b) rest))

pub entry_sound : (form : Form) (text : List ℕ) (t : Option (Rule × ℕ)) (a b : NodeName)
    (rest : List ℕ) → ◌≡◌ {A = Read} (front_entry form text) (Some (t, a, b, rest)) →
    (r : Rule) (wave : ℕ) → TellsOf t r wave → wave ≤ 4294967295 →
    BeginsWithEntry form text (entry r a b) wave rest
entry_sound form text t a b rest e r wave h small =
    let l = line_read form text t a b rest e in
    record {
      begins = line_there form text t a b rest e r wave h;
      wave_may = small;
      names_may = (l.line.first_may, l.line.second_may);
      ordered = l.line.ordered;
    }

-- a wave that is told may be written
told_may : (form : Form) (text : List ℕ) (s : Rule × ℕ) (names : List ℕ) →
    front_told form text ≡ Some (Some s, names) → s.1 ≤ 4294967295
told_may One text s names e =
    let z : ◌≡◌ {A = Option (Rule × ℕ) × List ℕ} (None, text) (Some s, names) = cc in
    let q : ◌≡◌ {A = Option (Rule × ℕ)} None (Some s) = ap (λ (p : Option (Rule × ℕ) × List ℕ). p.0) z in
    absurd (cc)
told_may Two text s names e =
    let d = told_sound text (Some s) names e in
    let z : ◌≡◌ {A = Rule × ℕ} s (d.rule, d.wave) = (let y = d.told in cc) in
    subst (λ w. w ≤ 4294967295) (sym (ap (λ (p : Rule × ℕ). p.1) z)) d.may

-- the first form is read as its own line
first_form : (text : List ℕ) (e : Entry) (wave : ℕ) (rest : List ℕ) →
    BeginsWithEntry One text e wave rest → BeginsWithLine text e.first e.second rest
first_form text e wave rest h = record {
  begins = h.begins;
  first_may = h.names_may.0;
  second_may = h.names_may.1;
  ordered = h.ordered;
}

-- a line that stands here is read
pub entry_complete : (form : Form) (text : List ℕ) (e : Entry) (wave : ℕ) (rest : List ℕ) →
    BeginsWithEntry form text e wave rest →
    ◌≡◌ {A = Read} (front_entry form text) (Some (told_of form e wave, e.first, e.second, rest))
entry_complete One text e wave rest h = ap
    (λ o. option_map (λ (l : NodeName × NodeName × List ℕ). (None, l.0, l.1, l.2)) o)
    (line_complete text e.first e.second rest (first_form text e wave rest h))
entry_complete Two text e wave rest h =
    ap (λ text. front_entry Two text) (h.begins
    ∙ append_assoc (rule_text e.rule) (32 ∷ decimal wave ++
    (32 ∷ line_text e.first e.second)) rest
    ∙ ap (λ bs. rule_text e.rule ++ 32 ∷ bs) (append_assoc (decimal wave) (32 ∷ line_text e.first e.second) rest))
    ∙ ap (λ o. option_and_then told_with o) (told_complete e.rule wave (line_text e.first e.second ++ rest) h.wave_may)
    ∙ ap (λ o. option_map (λ (l : NodeName × NodeName × List ℕ). (Some (e.rule, wave), l.0, l.1, l.2)) o)
    (line_complete (line_text e.first e.second ++ rest) e.first e.second rest
    (record { begins = refl; first_may = h.names_may.0; second_may = h.names_may.1; ordered = h.ordered }))

-- each line that is read is one of an entry and a wave
pub record IsOfEntry (form : Form) (text : List ℕ) (t : Option (Rule × ℕ)) (a b : NodeName)
    (rest : List ℕ) : Type 0 where
  pub rule : Rule
  pub wave : ℕ
  pub tells : TellsOf t rule wave
  pub begins : BeginsWithEntry form text (entry rule a b) wave rest

pub of_entry : (form : Form) (text : List ℕ) (t : Option (Rule × ℕ)) (a b : NodeName)
    (rest : List ℕ) → ◌≡◌ {A = Read} (front_entry form text) (Some (t, a, b, rest)) → IsOfEntry form text t a b rest
of_entry form text None a b rest e = record {
  rule = rule.Beta;
  wave = 0;
  tells = tt;
  begins = entry_sound form text None a b rest e rule.Beta 0 tt (omega arith);
}
of_entry form text (Some s) a b rest e = record {
  rule = s.0;
  wave = s.1;
  tells = (refl, refl);
  begins = entry_sound form text (Some s) a b rest e s.0 s.1 (refl, refl)
      (told_may form text s (line_read form text (Some s) a b rest e).names (line_read form text (Some s) a b rest e).told);
}

-- what a line that is read tells, of such an entry and such a wave
pub told_is : (form : Form) (text : List ℕ) (t : Option (Rule × ℕ)) (a b : NodeName)
    (rest : List ℕ) → ◌≡◌ {A = Read} (front_entry form text) (Some (t, a, b, rest)) →
    (r : Rule) (wave : ℕ) → TellsOf t r wave → t ≡ told_of form (entry r a b) wave
told_is One text t a b rest e r wave h =
    let l = line_read One text t a b rest e in
    let z : ◌≡◌ {A = Option (Rule × ℕ) × List ℕ} (None, text) (t, l.names) = (let y = l.told in cc) in
    sym (ap (λ (p : Option (Rule × ℕ) × List ℕ). p.0) z)
told_is Two text t a b rest e r wave h =
    let l = line_read Two text t a b rest e in
    let d = told_sound text t l.names l.told in
    let i : (d.rule ≡ r) × (d.wave ≡ wave) = subst (λ t. TellsOf t r wave) d.told h in
    d.told ∙ ap (λ r. Some (r, d.wave)) i.0 ∙ ap (λ wave. Some (r, wave)) i.1

-- no line, as it is read
pub none_read : (form : Form) (text : List ℕ) → HasNoLine form text → ◌≡◌ {A = Read} (front_entry form text) None
none_read form text h = go (front_entry form text) refl
  where
    go : (o : Option (Option (Rule × ℕ) × NodeName × NodeName × List ℕ)) →
        ◌≡◌ {A = Read} (front_entry form text) o → ◌≡◌ {A = Read} o None
    go None e = refl
    go (Some l) e = let of = of_entry form text l.0 l.1 l.2 l.3 e in
        absurd (h (entry of.rule l.1 l.2) of.wave l.3 of.begins)

pub none_there : (form : Form) (text : List ℕ) → ◌≡◌ {A = Read} (front_entry form text) None → HasNoLine form text
none_there form text e d wave rest h = let z : ◌≡◌ {A = Read} None
    (Some (told_of form d wave, d.first, d.second, rest)) = sym e ∙ entry_complete form text d wave rest h in cc

-- the first form tells neither rule nor wave
pub first_tells_nothing : (text : List ℕ) (t : Option (Rule × ℕ)) (a b : NodeName) (rest : List ℕ) →
    ◌≡◌ {A = Read} (front_entry One text) (Some (t, a, b, rest)) → (r : Rule) (wave : ℕ) → TellsOf t r wave
first_tells_nothing text t a b rest e r wave =
    let l = line_read One text t a b rest e in
    let z : ◌≡◌ {A = Option (Rule × ℕ) × List ℕ} (None, text) (t, l.names) = (let y = l.told in cc) in
    subst (λ t. TellsOf t r wave) (ap (λ (p : Option (Rule × ℕ) × List ℕ). p.0) z) tt
