-- What is read at a place is what stands there.
use Rattle.std.proofs.Common.{◌≡◌, ◌≢◌, ℕ, zero, suc, ◌+◌, ◌-◌, ◌*◌, ◌≤◌, Bool, true, false}
use Rattle.std.proofs.Common.{if◌then◌else◌, ◌&&◌, ◌==◌, nat_le, eqb-true, eq-eqb, List, [], ◌∷◌}
use Rattle.std.proofs.Common.{◌++◌, append_assoc, drop, Option, None, Some, inl, inr, refl, sym, ap, ◌∙◌, subst, arith}
use Rattle.std.proofs.lemmas.Fmt.{decimal_digit}
use Rattle.std.specs.Prelude.{option_and_then, option_map, IfSome, IfNone}
use Rattle.std.specs.Fmt.{decimal}
use Rattle.ol_net.specs.declared.parts.Rule.{Rule}
use Rattle.ol_net.specs.declared.parts.Rule.TheVariants as rule
use Rattle.ol_rules.specs.declared.journal.NodeName.{NodeName}
use Rattle.ol_rules.specs.declared.journal.NodeName.TheVariants.{Init, Born}
use Rattle.ol_view.specs.declared.forms.Form.{Form}
use Rattle.ol_view.specs.declared.line_reading.Line.{Line}
use Rattle.ol_view.specs.RuleNames.{rule_text}
use Rattle.ol_view.specs.Checks.{HasNoLine}
use Rattle.ol_view.specs.Standing.{NumberGoesOn, BeginsWithNumber, NameGoesOn, BeginsWithName}
use Rattle.ol_view.specs.Standing.{BeginsWithRule, BeginsWithTold}
use Rattle.ol_view.specs.LineReading.{is_digit, number_on, front_number, place_on, name_on, front_name, behind}
use Rattle.ol_view.specs.LineReading.{all_rules, front_rule, front_entry}
use Rattle.ol_view.proofs.Numerals.{is_a_digit, digit_bounds, number_stops, digits_front, number_complete, front_sound}
use Rattle.ol_view.proofs.Numerals.{place_complete, name_sound, behind_sound}
use Rattle.ol_view.proofs.Entries.{Read, rule_sound, entry_complete, none_there, of_entry, told_is}

-- ---- numbers

-- no digit goes on with what is read as far as it goes
on_ends : (n : ℕ) (bs : List ℕ) (m : ℕ) (rest : List ℕ) → number_on n bs ≡ Some (m, rest) →
    (byte : ℕ) (more : List ℕ) → rest ≡ byte ∷ more → is_digit byte ≡ true → ⊥
on_ends n [] m rest e byte more q d =
    let z : ◌≡◌ {A = ℕ × List ℕ} (n, []) (m, rest) = cc in
    let y : [] ≡ byte ∷ more = ap (λ (p : ℕ × List ℕ). p.1) z ∙ q in
    cc
on_ends n (b ∷ bs) m rest e byte more q d =
    go (λ e'. on_ends (n * 10 + (b - 48)) bs m rest e' byte more q d) (is_digit b)
    (nat_le (n * 10 + (b - 48)) 4294967295) refl e
  where
    go : (number_on (n * 10 + (b - 48)) bs ≡ Some (m, rest) → ⊥) → (v w : Bool) → is_digit b ≡ v →
        (if v then (if w then number_on (n * 10 + (b - 48)) bs else None) else Some (n, b ∷ bs))
        ≡ Some (m, rest) → ⊥
    go ih true true i e = ih e
    go ih true false i e = absurd (cc)
    go ih false w i e =
        let z : ◌≡◌ {A = ℕ × List ℕ} (n, b ∷ bs) (m, rest) = cc in
        let y : b ∷ bs ≡ byte ∷ more = ap (λ (p : ℕ × List ℕ). p.1) z ∙ q in
        let x : b ≡ byte = cc in
        let w : false ≡ true = sym i ∙ ap is_digit x ∙ d in
        cc

front_ends : (text : List ℕ) (n : ℕ) (rest : List ℕ) → front_number text ≡ Some (n, rest) →
    (byte : ℕ) (more : List ℕ) → rest ≡ byte ∷ more → NumberGoesOn n byte → ⊥
front_ends [] n rest e byte more q h = absurd (cc)
front_ends (b ∷ bs) n rest e byte more q h = go (b == 48) (is_digit b) e
  where
    go : (v w : Bool) → (if v then Some (0, bs) else (if w then number_on (b - 48) bs else None)) ≡ Some (n, rest) → ⊥
    go true w e =
        let z : ◌≡◌ {A = ℕ × List ℕ} (0, bs) (n, rest) = cc in
        h.0 (sym (ap (λ (p : ℕ × List ℕ). p.0) z))
    go false true e = on_ends (b - 48) bs n rest e byte more q (is_a_digit byte h.1 h.2)
    go false false e = absurd (cc)

pub number_stands : (text : List ℕ) (n : ℕ) (rest : List ℕ) → front_number text ≡ Some (n, rest) →
    BeginsWithNumber text n rest
number_stands text n rest e = let s = front_sound text n rest e in
    record { begins = s.0; may = s.1; ends = front_ends text n rest e }

number_ends : (n : ℕ) (rest : List ℕ) → n ≢ 0 →
    ((byte : ℕ) (more : List ℕ) → rest ≡ byte ∷ more → NumberGoesOn n byte → ⊥) → number_on n rest ≡ Some (n, rest)
number_ends n [] ne h = refl
number_ends n (b ∷ bs) ne h = go (is_digit b) refl
  where
    go : (v : Bool) → is_digit b ≡ v → number_on n (b ∷ bs) ≡ Some (n, b ∷ bs)
    go true i = let d = digit_bounds b i in absurd (h b bs refl (ne, d.0, d.1))
    go false i = number_stops n b bs i

number_here : (n : ℕ) (rest : List ℕ) → n ≤ 4294967295 →
    ((byte : ℕ) (more : List ℕ) → rest ≡ byte ∷ more → NumberGoesOn n byte → ⊥) →
    front_number (decimal n ++ rest) ≡ Some (n, rest)
number_here zero rest l h = ap (λ (ds : List ℕ). front_number (ds ++ rest)) (decimal_digit 0 (omega arith))
number_here (suc n) rest l h = digits_front (suc n) (omega arith) (omega arith) l rest
    ∙ number_ends (suc n) rest (λ e. absurd (omega arith)) h

-- a number that stands there is read
pub number_is_read : (text : List ℕ) (n : ℕ) (rest : List ℕ) → BeginsWithNumber text n rest →
    front_number text ≡ Some (n, rest)
number_is_read text n rest h = ap front_number h.begins ∙ number_here n rest h.may h.ends

-- where none stands, none is read
pub no_number_is_read : (text : List ℕ) → ((n : ℕ) (rest : List ℕ) → BeginsWithNumber text n rest → ⊥) →
    front_number text ≡ None
no_number_is_read text h = go (front_number text) refl
  where
    go : (o : Option (ℕ × List ℕ)) → front_number text ≡ o → o ≡ None
    go None e = refl
    go (Some r) e = absurd (h r.0 r.1 (number_stands text r.0 r.1 e))

pub number_found : (text : List ℕ) (at : ℕ) (o : Option (ℕ × ℕ)) →
    front_number (drop at text) ≡ option_map (λ (r : ℕ × ℕ). (r.0, drop r.1 text)) o →
    IfSome o (λ (r : ℕ × ℕ). BeginsWithNumber (drop at text) r.0 (drop r.1 text))
number_found text at None e = tt
number_found text at (Some r) e = number_stands (drop at text) r.0 (drop r.1 text) e

pub number_none : (text : List ℕ) (at : ℕ) (o : Option (ℕ × ℕ)) →
    front_number (drop at text) ≡ option_map (λ (r : ℕ × ℕ). (r.0, drop r.1 text)) o →
    IfNone o ((n : ℕ) (rest : List ℕ) → BeginsWithNumber (drop at text) n rest → ⊥)
number_none text at None e = λ n rest h. let z : ◌≡◌ {A = Option (ℕ × List ℕ)} None (Some (n, rest)) =
    sym e ∙ number_is_read (drop at text) n rest h in cc
number_none text at (Some r) e = tt

-- ---- names

name_ends : (text : List ℕ) (x : NodeName) (rest : List ℕ) → front_name text ≡ Some (x, rest) →
    (byte : ℕ) (more : List ℕ) → rest ≡ byte ∷ more → NameGoesOn x byte → ⊥
name_ends text (Born t p) rest e byte more q h = h
name_ends text (Init k) rest e byte more q h = first (front_number text) refl e
  where
    placed : (t : ℕ) (bs : List ℕ) → place_on t bs ≡ Some (Init k, rest) → ⊥
    placed t [] e = absurd (cc)
    placed t (b ∷ bs) e = go (nat_le 48 b && nat_le b 51) e
      where
        go : (v : Bool) → ◌≡◌ {A = Option (NodeName × List ℕ)} (if v then Some (Born t (b - 48), bs) else None)
            (Some (Init k, rest)) → ⊥
        go true e =
            let z : ◌≡◌ {A = NodeName × List ℕ} (Born t (b - 48), bs) (Init k, rest) = cc in
            let y : ◌≡◌ {A = NodeName} (Born t (b - 48)) (Init k) = ap (λ (p : NodeName × List ℕ). p.0) z in
            cc
        go false e = absurd (cc)

    same : (n : ℕ) (bs : List ℕ) → front_number text ≡ Some (n, bs) →
        ◌≡◌ {A = Option (NodeName × List ℕ)} (Some (Init n, bs)) (Some (Init k, rest)) → NumberGoesOn k byte → ⊥
    same n bs i e g =
        let z : ◌≡◌ {A = NodeName × List ℕ} (Init n, bs) (Init k, rest) = cc in
        let y : ◌≡◌ {A = NodeName} (Init n) (Init k) = ap (λ (p : NodeName × List ℕ). p.0) z in
        let x : n ≡ k = cc in
        let w : bs ≡ rest = ap (λ (p : NodeName × List ℕ). p.1) z in
        front_ends text n bs i byte more (w ∙ q) (subst (λ k. NumberGoesOn k byte) (sym x) g)

    dotless : (n b : ℕ) (bs : List ℕ) → (b == 46) ≡ false →
        ◌≡◌ {A = Option (NodeName × List ℕ)} (Some (Init n, b ∷ bs)) (Some (Init k, rest)) → byte ≡ 46 → ⊥
    dotless n b bs i e g =
        let z : ◌≡◌ {A = NodeName × List ℕ} (Init n, b ∷ bs) (Init k, rest) = cc in
        let w : b ∷ bs ≡ byte ∷ more = ap (λ (p : NodeName × List ℕ). p.1) z ∙ q in
        let x : b ≡ byte = cc in
        let y : false ≡ true = sym i ∙ eq-eqb b 46 (x ∙ g) in
        cc

    stops : (n b : ℕ) (bs : List ℕ) → front_number text ≡ Some (n, b ∷ bs) → (b == 46) ≡ false →
        ◌≡◌ {A = Option (NodeName × List ℕ)} (Some (Init n, b ∷ bs)) (Some (Init k, rest)) →
        NameGoesOn (Init k) byte → ⊥
    stops n b bs i j e (inl g) = same n (b ∷ bs) i e g
    stops n b bs i j e (inr g) = dotless n b bs j e g

    second : (n : ℕ) (bs : List ℕ) → front_number text ≡ Some (n, bs) → name_on n bs ≡ Some (Init k, rest) → ⊥
    second n [] i e =
        let z : ◌≡◌ {A = NodeName × List ℕ} (Init n, []) (Init k, rest) = cc in
        let w : [] ≡ byte ∷ more = ap (λ (p : NodeName × List ℕ). p.1) z ∙ q in
        cc
    second n (b ∷ bs) i e = go (b == 46) refl e
      where
        go : (v : Bool) → (b == 46) ≡ v → ◌≡◌ {A = Option (NodeName × List ℕ)}
            (if v then place_on n bs else Some (Init n, b ∷ bs)) (Some (Init k, rest)) → ⊥
        go true j e = placed n bs e
        go false j e = stops n b bs i j e h

    first : (o : Option (ℕ × List ℕ)) → front_number text ≡ o →
        option_and_then (λ (r : ℕ × List ℕ). name_on r.0 r.1) o ≡ Some (Init k, rest) → ⊥
    first None i e = absurd (cc)
    first (Some r) i e = second r.0 r.1 i e

pub name_stands : (text : List ℕ) (x : NodeName) (rest : List ℕ) → front_name text ≡ Some (x, rest) →
    BeginsWithName text x rest
name_stands text x rest e = let s = name_sound text x rest e in
    record { begins = s.0; may = s.1; ends = name_ends text x rest e }

init_on : (k : ℕ) (rest : List ℕ) → ((byte : ℕ) (more : List ℕ) → rest ≡ byte ∷ more → byte ≡ 46 → ⊥) →
    name_on k rest ≡ Some (Init k, rest)
init_on k [] h = refl
init_on k (b ∷ bs) h = go (b == 46) refl
  where
    go : (v : Bool) → (b == 46) ≡ v →
        ◌≡◌ {A = Option (NodeName × List ℕ)} (if v then place_on k bs else Some (Init k, b ∷ bs))
        (Some (Init k, b ∷ bs))
    go true i = absurd (h b bs refl (eqb-true b 46 i))
    go false i = refl

-- a name that stands there is read
pub name_is_read : (text : List ℕ) (x : NodeName) (rest : List ℕ) → BeginsWithName text x rest →
    front_name text ≡ Some (x, rest)
name_is_read text (Init k) rest h =
    ap (λ o. option_and_then (λ (r : ℕ × List ℕ). name_on r.0 r.1) o) (number_is_read text k rest (record {
      begins = h.begins;
      may = h.may;
      ends = λ byte more q g. h.ends byte more q (inl g);
    }))
    ∙ init_on k rest (λ byte more q g. h.ends byte more q (inr g))
name_is_read text (Born t p) rest h =
    ap front_name (h.begins ∙ append_assoc (decimal t) (46 ∷ decimal p) rest)
    ∙ ap (λ o. option_and_then (λ (r : ℕ × List ℕ). name_on r.0 r.1) o)
    (number_complete t 46 (decimal p ++ rest) h.may.0 refl)
    ∙ place_complete t p rest h.may.1

pub no_name_is_read : (text : List ℕ) → ((x : NodeName) (rest : List ℕ) → BeginsWithName text x rest → ⊥) →
    front_name text ≡ None
no_name_is_read text h = go (front_name text) refl
  where
    go : (o : Option (NodeName × List ℕ)) → front_name text ≡ o → o ≡ None
    go None e = refl
    go (Some r) e = absurd (h r.0 r.1 (name_stands text r.0 r.1 e))

pub name_found : (text : List ℕ) (at : ℕ) (o : Option (NodeName × ℕ)) →
    front_name (drop at text) ≡ option_map (λ (r : NodeName × ℕ). (r.0, drop r.1 text)) o →
    IfSome o (λ (r : NodeName × ℕ). BeginsWithName (drop at text) r.0 (drop r.1 text))
name_found text at None e = tt
name_found text at (Some r) e = name_stands (drop at text) r.0 (drop r.1 text) e

pub name_none : (text : List ℕ) (at : ℕ) (o : Option (NodeName × ℕ)) →
    front_name (drop at text) ≡ option_map (λ (r : NodeName × ℕ). (r.0, drop r.1 text)) o →
    IfNone o ((x : NodeName) (rest : List ℕ) → BeginsWithName (drop at text) x rest → ⊥)
name_none text at None e = λ x rest h. let z : ◌≡◌ {A = Option (NodeName × List ℕ)} None (Some (x, rest)) =
    sym e ∙ name_is_read (drop at text) x rest h in cc
name_none text at (Some r) e = tt

-- ---- bytes

byte_is_read : (c : ℕ) (bs rest : List ℕ) → bs ≡ c ∷ rest → behind c bs ≡ Some rest
byte_is_read c bs rest h = ap (behind c) h ∙ ap (λ v. if v then Some rest else None) (eq-eqb c c refl)

pub byte_found : (text : List ℕ) (at c : ℕ) (o : Option ℕ) →
    behind c (drop at text) ≡ option_map (λ to. drop to text) o → IfSome o (λ to. drop at text ≡ c ∷ drop to text)
byte_found text at c None e = tt
byte_found text at c (Some to) e = behind_sound c (drop at text) (drop to text) e

pub byte_none : (text : List ℕ) (at c : ℕ) (o : Option ℕ) →
    behind c (drop at text) ≡ option_map (λ to. drop to text) o →
    IfNone o ((rest : List ℕ) → drop at text ≢ c ∷ rest)
byte_none text at c None e = λ rest h.
    let z : None ≡ Some rest = sym e ∙ byte_is_read c (drop at text) rest h in cc
byte_none text at c (Some to) e = tt

-- where the byte doesn't stand, nothing is read
pub no_byte_is_read : (c : ℕ) (bs : List ℕ) → ((rest : List ℕ) → bs ≢ c ∷ rest) → behind c bs ≡ None
no_byte_is_read c bs h = go (behind c bs) refl
  where
    go : (o : Option (List ℕ)) → behind c bs ≡ o → o ≡ None
    go None e = refl
    go (Some rest) e = absurd (h rest (behind_sound c bs rest e))

-- ---- names of rules

rule_alone : (r : Rule) → front_rule (rule_text r ++ []) ≡ Some (r, [])
rule_alone rule.Beta = refl
rule_alone rule.Fan = refl
rule_alone rule.Croissant = refl
rule_alone rule.Bracket = refl
rule_alone rule.CrossFan = refl
rule_alone rule.CrossCroissant = refl
rule_alone rule.CrossBracket = refl
rule_alone rule.Erase = refl

pub rule_before : (r : Rule) (c : ℕ) (rest : List ℕ) → front_rule (rule_text r ++ c ∷ rest) ≡ Some (r, c ∷ rest)
rule_before rule.Beta c rest = refl
rule_before rule.Fan c rest = refl
rule_before rule.Croissant c rest = refl
rule_before rule.Bracket c rest = refl
rule_before rule.CrossFan c rest = refl
rule_before rule.CrossCroissant c rest = refl
rule_before rule.CrossBracket c rest = refl
rule_before rule.Erase c rest = refl

rule_here : (r : Rule) (rest : List ℕ) → front_rule (rule_text r ++ rest) ≡ Some (r, rest)
rule_here r [] = rule_alone r
rule_here r (c ∷ rest) = rule_before r c rest

-- the name of a rule that stands there is read
pub rule_is_read : (text : List ℕ) (r : Rule) (rest : List ℕ) → BeginsWithRule text r rest →
    front_rule text ≡ Some (r, rest)
rule_is_read text r rest h = ap front_rule h ∙ rule_here r rest

pub no_rule_is_read : (text : List ℕ) → ((r : Rule) (rest : List ℕ) → BeginsWithRule text r rest → ⊥) →
    front_rule text ≡ None
no_rule_is_read text h = go (front_rule text) refl
  where
    go : (o : Option (Rule × List ℕ)) → front_rule text ≡ o → o ≡ None
    go None e = refl
    go (Some r) e = absurd (h r.0 r.1 (rule_sound all_rules text r.0 r.1 e))

pub rule_found : (text : List ℕ) (at : ℕ) (o : Option (Rule × ℕ)) →
    front_rule (drop at text) ≡ option_map (λ (r : Rule × ℕ). (r.0, drop r.1 text)) o →
    IfSome o (λ (r : Rule × ℕ). BeginsWithRule (drop at text) r.0 (drop r.1 text))
rule_found text at None e = tt
rule_found text at (Some r) e = rule_sound all_rules (drop at text) r.0 (drop r.1 text) e

pub rule_none : (text : List ℕ) (at : ℕ) (o : Option (Rule × ℕ)) →
    front_rule (drop at text) ≡ option_map (λ (r : Rule × ℕ). (r.0, drop r.1 text)) o →
    IfNone o ((r : Rule) (rest : List ℕ) → BeginsWithRule (drop at text) r rest → ⊥)
rule_none text at None e = λ r rest h. let z : ◌≡◌ {A = Option (Rule × List ℕ)} None (Some (r, rest)) =
    sym e ∙ rule_is_read (drop at text) r rest h in cc
rule_none text at (Some r) e = tt

-- ---- lines

line_stands : (form : Form) (text : List ℕ) (l : Line) (rest : List ℕ) →
    ◌≡◌ {A = Read} (front_entry form text) (Some (l.told, l.first, l.second, rest)) → BeginsWithTold form text l rest
line_stands form text l rest e =
    let of = of_entry form text l.told l.first l.second rest e in
    record {
      entry = record { rule = of.rule; first = l.first; second = l.second };
      wave = of.wave;
      begins = of.begins;
      told = told_is form text l.told l.first l.second rest e of.rule of.wave of.tells;
      first = refl;
      second = refl;
    }

-- a line that stands there is read
pub line_is_read : (form : Form) (text : List ℕ) (l : Line) (rest : List ℕ) → BeginsWithTold form text l rest →
    ◌≡◌ {A = Read} (front_entry form text) (Some (l.told, l.first, l.second, rest))
line_is_read form text l rest h = entry_complete form text h.entry h.wave rest h.begins
    ∙ ap (λ (t : Option (Rule × ℕ)). Some (t, h.entry.first, h.entry.second, rest)) (sym h.told)
    ∙ ap (λ (a : NodeName). Some (l.told, a, h.entry.second, rest)) (sym h.first)
    ∙ ap (λ (b : NodeName). Some (l.told, l.first, b, rest)) (sym h.second)

pub line_found : (form : Form) (text : List ℕ) (at : ℕ) (o : Option Line) → ◌≡◌ {A = Read}
    (front_entry form (drop at text)) (option_map (λ (l : Line). (l.told, l.first, l.second, drop l.next text)) o) →
    IfSome o (λ (l : Line). BeginsWithTold form (drop at text) l (drop l.next text))
line_found form text at None e = tt
line_found form text at (Some l) e = line_stands form (drop at text) l (drop l.next text) e

pub line_none : (form : Form) (text : List ℕ) (at : ℕ) (o : Option Line) → ◌≡◌ {A = Read}
    (front_entry form (drop at text)) (option_map (λ (l : Line). (l.told, l.first, l.second, drop l.next text)) o) →
    IfNone o (HasNoLine form (drop at text))
line_none form text at None e = none_there form (drop at text) e
line_none form text at (Some l) e = tt
