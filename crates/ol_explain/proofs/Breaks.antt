-- Fields of a line: how they begin, what ends them, and what is left behind them.
use Rattle.std.proofs.Common.{◌≡◌, ◌≢◌, ℕ, ◌+◌, ◌-◌, ◌*◌, ◌<◌, ◌≤◌, Bool, true, false, if◌then◌else◌, ◌&&◌, ◌==◌, nat_le}
use Rattle.std.proofs.Common.{List, [], ◌∷◌, ◌++◌, append_assoc, length, length-append, length-drop, take, drop, get_or, eqb-true, eq-eqb, Option, None, Some}
use Rattle.std.proofs.Common.{◌⊎◌, inl, inr, refl, sym, ap, ◌∙◌, subst, arith}
use Rattle.std.specs.Prelude.{option_and_then, option_map, codes}
use Rattle.std.specs.Fmt.{decimal}
use Rattle.std.proofs.lemmas.List.{append-nil, drop_at, drop_all, take_all, take_more, get_or_push, same_from_push, nil_from_length}
use Rattle.std.proofs.lemmas.Bool.Decides.{nat_tests}
use Rattle.std.proofs.lemmas.Fmt.{decimal_digit, decimal_nonempty}
use Rattle.ol_net.specs.declared.parts.Rule.{Rule}
use Rattle.ol_net.specs.declared.parts.Rule.TheVariants as rule
use Rattle.ol_rules.specs.declared.journal.NodeName.{NodeName}
use Rattle.ol_rules.specs.declared.journal.NodeName.TheVariants.{Init, Born}
use Rattle.ol_view.specs.declared.forms.Form.{Form}
use Rattle.ol_view.specs.declared.forms.Form.TheVariants.{One, Two}
use Rattle.ol_view.specs.TraceTexts.{name_text}
use Rattle.ol_view.specs.RuleNames.{rule_text}
use Rattle.ol_view.specs.Forms.{header_of}
use Rattle.ol_view.specs.LineReading.{is_digit, number_on, front_number, place_on, name_on, front_name, behind, all_rules, front_rule}
use Rattle.ol_view.proofs.Entries.{rule_sound as rule_sound_of}
use Rattle.ol_view.proofs.Numerals.{number_complete, name_complete, name_sound, front_sound}
use Rattle.ol_view.proofs.Fronts.{header_long}
use Rattle.ol_view.proofs.AtPlaces.{rule_before}
use Rattle.ol_explain.specs.declared.wanting.Field.{Field}
use Rattle.ol_explain.specs.declared.wanting.Field.TheVariants as field
use Rattle.ol_explain.specs.Fields.{IsField, Begins, IsEnd}

-- ---- two ways to part one text

pub data Parts (a b c d : List ℕ) : Type 0 where
  short : (m : List ℕ) → c ≡ a ++ m → b ≡ m ++ d → Parts a b c d
  long : (m : List ℕ) → a ≡ c ++ m → d ≡ m ++ b → Parts a b c d

one_more : (x y : ℕ) (a b c d : List ℕ) → x ≡ y → Parts a b c d → Parts (x ∷ a) b (y ∷ c) d
one_more x y a b c d h (short m p q) = short m (ap (λ z. z ∷ c) (sym h) ∙ ap (λ s. x ∷ s) p) q
one_more x y a b c d h (long m p q) = long m (ap (λ z. z ∷ a) h ∙ ap (λ s. y ∷ s) p) q

pub parts : (a b c d : List ℕ) → a ++ b ≡ c ++ d → Parts a b c d
parts [] b c d e = short c refl e
parts (x ∷ a) b [] d e = long (x ∷ a) refl (sym e)
parts (x ∷ a) b (y ∷ c) d e =
    let h : x ≡ y = cc in
    let t : a ++ b ≡ c ++ d = cc in
    one_more x y a b c d h (parts a b c d t)

-- ---- the beginning of a number is a number

abbrev Whole : Option (ℕ × List ℕ) → Type 0
Whole o = (k : ℕ) × (◌≡◌ {A = Option (ℕ × List ℕ)} o (Some (k, [])))

pub rest_is : (n m : ℕ) (bs r : List ℕ) → ◌≡◌ {A = Option (ℕ × List ℕ)} (Some (n, bs)) (Some (m, r)) → bs ≡ r
rest_is n m bs r e = let z : ◌≡◌ {A = ℕ × List ℕ} (n, bs) (m, r) = cc in ap (λ (p : ℕ × List ℕ). p.1) z

on_before : (m : ℕ) (a b : List ℕ) (n : ℕ) (r : List ℕ) → number_on m (a ++ b) ≡ Some (n, r) →
    length r ≤ length b → Whole (number_on m a)
on_before m [] b n r e l = (m, refl)
on_before m (d ∷ a) b n r e l =
    go (λ e'. on_before (m * 10 + (d - 48)) a b n r e' l) (is_digit d) (nat_le (m * 10 + (d - 48)) 4294967295) e
  where
    go : (number_on (m * 10 + (d - 48)) (a ++ b) ≡ Some (n, r) → Whole (number_on (m * 10 + (d - 48)) a)) →
        (v w : Bool) → (if v then (if w then number_on (m * 10 + (d - 48)) (a ++ b) else None)
        else Some (m, d ∷ (a ++ b))) ≡ Some (n, r) →
        Whole (if v then (if w then number_on (m * 10 + (d - 48)) a else None) else Some (m, d ∷ a))
    go ih true true e = ih e
    go ih true false e = absurd (cc)
    go ih false w e =
        let z = ap length (rest_is m n (d ∷ (a ++ b)) r e) in
        let y = length-append a b in
        absurd (omega arith)

front_before : (a b : List ℕ) (n : ℕ) (r : List ℕ) → a ≢ [] → front_number (a ++ b) ≡ Some (n, r) →
    length r ≤ length b → Whole (front_number a)
front_before [] b n r ne e l = absurd (ne refl)
front_before (d ∷ a) b n r ne e l = go (d == 48) (is_digit d) e
  where
    go : (v w : Bool) → (if v then Some (0, a ++ b) else (if w then number_on (d - 48) (a ++ b) else None))
        ≡ Some (n, r) → Whole (if v then Some (0, a) else (if w then number_on (d - 48) a else None))
    go true w e =
        let z = ap length (rest_is 0 n (a ++ b) r e) in
        let y = length-append a b in
        let q : length a ≡ 0 = omega arith in
        (0, ap (λ (a : List ℕ). Some (0, a)) (nil_from_length a q))
    go false true e = on_before (d - 48) a b n r e l
    go false false e = absurd (cc)

-- what begins a number and isn't empty is read as a whole
pub number_prefix : (read more : List ℕ) (n : ℕ) → n ≤ 4294967295 → read ++ more ≡ decimal n → read ≢ [] →
    Whole (front_number read)
number_prefix read more n l q ne = front_before read (more ++ 32 ∷ []) n (32 ∷ []) ne
    (ap front_number (sym (append_assoc read more (32 ∷ [])) ∙ ap (λ (s : List ℕ). s ++ 32 ∷ []) q)
    ∙ number_complete n 32 [] l refl)
    (let y = length-append more (32 ∷ []) in omega arith)

pub is_whole : (read : List ℕ) (k : ℕ) → front_number read ≡ Some (k, []) → IsField field.Number read
is_whole read k e = let s = front_sound read k [] e in (k, s.1, s.0 ∙ append-nil (decimal k))

pub not_empty : (n : ℕ) → n ≤ 4294967295 → decimal n ≢ []
not_empty n l e = let z = ap length e in let y = decimal_nonempty n (omega arith) in omega arith

pub whole_number : (read : List ℕ) → IsField field.Number read → Whole (front_number read)
whole_number read (n, l, e) = number_prefix read [] n l (append-nil read ∙ e) (λ z. not_empty n l (sym e ∙ z))

-- no dot stands in a number
on_dot : (m : ℕ) (a b : List ℕ) (n : ℕ) (r : List ℕ) → number_on m (a ++ 46 ∷ b) ≡ Some (n, r) →
    length b < length r
on_dot m [] b n r e = let z = ap length (rest_is m n (46 ∷ b) r e) in omega arith
on_dot m (d ∷ a) b n r e =
    go (λ e'. on_dot (m * 10 + (d - 48)) a b n r e') (is_digit d) (nat_le (m * 10 + (d - 48)) 4294967295) e
  where
    go : (number_on (m * 10 + (d - 48)) (a ++ 46 ∷ b) ≡ Some (n, r) → length b < length r) →
        (v w : Bool) → (if v then (if w then number_on (m * 10 + (d - 48)) (a ++ 46 ∷ b) else None)
        else Some (m, d ∷ (a ++ 46 ∷ b))) ≡ Some (n, r) → length b < length r
    go ih true true e = ih e
    go ih true false e = absurd (cc)
    go ih false w e =
        let z = ap length (rest_is m n (d ∷ (a ++ 46 ∷ b)) r e) in
        let y = length-append a (46 ∷ b) in
        omega arith

front_dot : (a b : List ℕ) (n : ℕ) (r : List ℕ) → front_number (a ++ 46 ∷ b) ≡ Some (n, r) → length b < length r
front_dot [] b n r e = absurd (cc)
front_dot (d ∷ a) b n r e = go (d == 48) (is_digit d) e
  where
    go : (v w : Bool) → (if v then Some (0, a ++ 46 ∷ b) else (if w then number_on (d - 48) (a ++ 46 ∷ b) else None))
        ≡ Some (n, r) → length b < length r
    go true w e =
        let z = ap length (rest_is 0 n (a ++ 46 ∷ b) r e) in
        let y = length-append a (46 ∷ b) in
        omega arith
    go false true e = on_dot (d - 48) a b n r e
    go false false e = absurd (cc)

no_dot : (n : ℕ) (a b : List ℕ) → n ≤ 4294967295 → decimal n ≡ a ++ 46 ∷ b → ⊥
no_dot n a b l e =
    let z = front_dot a (b ++ 32 ∷ []) n (32 ∷ [])
    (ap front_number (sym (ap (λ (s : List ℕ). s ++ 32 ∷ []) e ∙ append_assoc a (46 ∷ b) (32 ∷ [])))
    ∙ number_complete n 32 [] l refl) in
    let y = length-append b (32 ∷ []) in
    omega arith

-- ---- names

place_read : (t p : ℕ) → p ≤ 3 → place_on t (decimal p) ≡ Some (Born t p, [])
place_read t p l =
    let e : nat_le 48 (48 + p) ≡ true = grind (arith, nat_tests) in
    let e' : nat_le (48 + p) 51 ≡ true = grind (arith, nat_tests) in
    let q : 48 + p - 48 ≡ p = omega arith in
    let i : (nat_le 48 (48 + p) && nat_le (48 + p) 51) ≡ true = rw (e, e') refl in
    ap (λ (ds : List ℕ). place_on t ds) (decimal_digit p (omega arith))
    ∙ ap (λ v. if v then Some (Born t (48 + p - 48), []) else None) i
    ∙ ap (λ p. Some (Born t p, [])) q

abbrev WholeName : List ℕ → Type 0
WholeName read = (x : NodeName) × (◌≡◌ {A = Option (NodeName × List ℕ)} (front_name read) (Some (x, [])))

pub whole_name : (read : List ℕ) → IsField field.Name read → WholeName read
whole_name read (Init k, may, e) =
    let w = whole_number read (k, may, e) in
    (Init w.0, ap (λ o. option_and_then (λ (r : ℕ × List ℕ). name_on r.0 r.1) o) w.1)
whole_name read (Born t p, may, e) = (
  Born t p,
  ap front_name e
      ∙ ap (λ o. option_and_then (λ (r : ℕ × List ℕ). name_on r.0 r.1) o) (number_complete t 46 (decimal p) may.0 refl)
      ∙ place_read t p may.1,
)

-- a number and a dot begin a name
pub dot_begins : (front : List ℕ) → IsField field.Number front → Begins field.Name (front ++ 46 ∷ [])
dot_begins front (n, l, e) = (
  decimal 0,
  (
    Born n 0,
    (l, omega arith),
    append_assoc front (46 ∷ []) (decimal 0) ∙ ap (λ (u : List ℕ). u ++ 46 ∷ decimal 0) e,
  ),
)

dot_parts : (front more : List ℕ) (t p : ℕ) → t ≤ 4294967295 → p ≤ 3 →
    Parts front (46 ∷ more) (decimal t) (46 ∷ decimal p) → IsField field.Number front
dot_parts front more t p lt lp (short [] e q) = (t, lt, sym (e ∙ append-nil front))
dot_parts front more t p lt lp (short (d ∷ m) e q) =
    let z : 46 ≡ d = cc in
    absurd (no_dot t front m lt (e ∙ ap (λ d. front ++ d ∷ m) (sym z)))
dot_parts front more t p lt lp (long [] e q) = (t, lt, e ∙ append-nil (decimal t))
dot_parts front more t p lt lp (long (d ∷ m) e q) =
    let z : decimal p ≡ m ++ 46 ∷ more = cc in
    absurd (no_dot p m more (omega arith) z)

pub dot_begins_only : (front : List ℕ) → Begins field.Name (front ++ 46 ∷ []) → IsField field.Number front
dot_begins_only front (more, (Init k, may, e)) =
    absurd (no_dot k front more may (sym e ∙ append_assoc front (46 ∷ []) more))
dot_begins_only front (more, (Born t p, may, e)) = dot_parts front more t p may.0 may.1
    (parts front (46 ∷ more) (decimal t) (46 ∷ decimal p) (sym (append_assoc front (46 ∷ []) more) ∙ e))

number_is_name : (read : List ℕ) (k : ℕ) → front_number read ≡ Some (k, []) → IsField field.Name read
number_is_name read k e = let s = is_whole read k e in (Init s.0, s.1, s.2)

last_part : (read more m : List ℕ) (t p : ℕ) → t ≤ 4294967295 → p ≤ 3 →
    ((front : List ℕ) → read ≢ front ++ 46 ∷ []) → read ≡ decimal t ++ 46 ∷ m → decimal p ≡ m ++ more →
    IsField field.Name read
last_part read more [] t p lt lp other e q = absurd (other (decimal t) e)
last_part read more (d ∷ m) t p lt lp other e q =
    let y : (48 + p) ∷ [] ≡ d ∷ (m ++ more) = sym (decimal_digit p (omega arith)) ∙ q in
    let z : m ++ more ≡ [] = cc in
    let n = ap length z in
    let w = length-append m more in
    let k : length more ≡ 0 = omega arith in (
      Born t p,
      (lt, lp),
      e ∙ ap (λ (s : List ℕ). decimal t ++ 46 ∷ s)
          (sym (q ∙ ap (λ (more : List ℕ). d ∷ (m ++ more)) (nil_from_length more k) ∙ append-nil (d ∷ m))),
    )

name_parts : (read more : List ℕ) (t p : ℕ) → t ≤ 4294967295 → p ≤ 3 → read ≢ [] →
    ((front : List ℕ) → read ≢ front ++ 46 ∷ []) → Parts read more (decimal t) (46 ∷ decimal p) →
    IsField field.Name read
name_parts read more t p lt lp ne other (short m e q) =
    let w = number_prefix read m t lt (sym e) ne in number_is_name read w.0 w.1
name_parts read more t p lt lp ne other (long [] e q) = (Init t, lt, e ∙ append-nil (decimal t))
name_parts read more t p lt lp ne other (long (d ∷ m) e q) =
    let z : 46 ≡ d = cc in
    let y : decimal p ≡ m ++ more = cc in
    last_part read more m t p lt lp other (e ∙ ap (λ d. decimal t ++ d ∷ m) (sym z)) y

-- what begins a name and doesn't end with a dot is one
pub name_begins_only : (read : List ℕ) → read ≢ [] → ((front : List ℕ) → read ≢ front ++ 46 ∷ []) →
    Begins field.Name read → IsField field.Name read
name_begins_only read ne other (more, (Init k, may, e)) =
    let w = number_prefix read more k may e ne in number_is_name read w.0 w.1
name_begins_only read ne other (more, (Born t p, may, e)) = name_parts read more t p may.0 may.1 ne other
    (parts read more (decimal t) (46 ∷ decimal p) e)

-- ---- what ends a field

abbrev pub After : Field → List ℕ → Option (List ℕ)
After field.Header t = Some (drop 10 t)
After field.Rule t = option_map (λ (r : Rule × List ℕ). r.1) (front_rule t)
After field.Number t = option_map (λ (r : ℕ × List ℕ). r.1) (front_number t)
After field.Name t = option_map (λ (r : NodeName × List ℕ). r.1) (front_name t)

pub no_digit : (c : ℕ) → (c ≡ 10) ⊎ (c ≡ 32) → is_digit c ≡ false
no_digit c (inl e) = ap is_digit e
no_digit c (inr e) = ap is_digit e

pub not_dot : (c : ℕ) → (c ≡ 10) ⊎ (c ≡ 32) → (c == 46) ≡ false
not_dot c (inl e) = ap (λ c. c == 46) e
not_dot c (inr e) = ap (λ c. c == 46) e

pub after_field : (f : Field) (u : List ℕ) (c : ℕ) (t : List ℕ) → IsField f u → IsEnd f c →
    After f (u ++ c ∷ t) ≡ Some (c ∷ t)
after_field field.Header u c t (form, e) end =
    let n = header_long form in
    let z = ap length e in
    let y = length-append u (10 ∷ []) in
    ap (λ (s : List ℕ). Some s) (drop_at u (c ∷ t) 10 (omega arith))
after_field field.Rule u c t (r, e) end =
    ap (λ (u : List ℕ). After field.Rule (u ++ c ∷ t)) e
    ∙ ap (λ o. option_map (λ (r : Rule × List ℕ). r.1) o) (rule_before r c t)
after_field field.Number u c t (n, l, e) end =
    ap (λ (u : List ℕ). After field.Number (u ++ c ∷ t)) e
    ∙ ap (λ o. option_map (λ (r : ℕ × List ℕ). r.1) o) (number_complete n c t l (no_digit c end))
after_field field.Name u c t (x, may, e) end =
    ap (λ (u : List ℕ). After field.Name (u ++ c ∷ t)) e
    ∙ ap (λ o. option_map (λ (r : NodeName × List ℕ). r.1) o)
    (name_complete x c t may (no_digit c end) (not_dot c end))

-- what follows a field is one text
pub same_rest : (f : Field) (u v : List ℕ) (c : ℕ) (s t : List ℕ) → IsField f u → IsField f v → IsEnd f c →
    u ++ c ∷ s ≡ v ++ c ∷ t → s ≡ t
same_rest f u v c s t h h' end e =
    let z : Some (c ∷ s) ≡ Some (c ∷ t) = sym (after_field f u c s h end) ∙ ap (After f) e
    ∙ after_field f v c t h' end in
    let y : c ∷ s ≡ c ∷ t = cc in
    cc

-- no field goes on behind its end
pub apart : (f : Field) (u : List ℕ) (c : ℕ) (s : List ℕ) → IsField f u → IsField f (u ++ c ∷ s) → IsEnd f c → ⊥
apart f u c s h h' end =
    let z : Some (c ∷ (s ++ c ∷ [])) ≡ Some (c ∷ []) = sym (after_field f u c (s ++ c ∷ []) h end)
    ∙ ap (After f) (sym (append_assoc u (c ∷ s) (c ∷ []))) ∙ after_field f (u ++ c ∷ s) c [] h' end in
    let x : c ∷ (s ++ c ∷ []) ≡ c ∷ [] = cc in
    let y : s ++ c ∷ [] ≡ [] = cc in
    let n = ap length y in
    let w = length-append s (c ∷ []) in
    omega arith

-- ---- what a place tells of what was read

pub same_end : {A : Type 0} (o : Option (A × List ℕ)) (a b : A) (read : List ℕ) (to : ℕ) →
    ◌≡◌ {A = Option (A × List ℕ)} o (Some (a, drop to read)) → ◌≡◌ {A = Option (A × List ℕ)} o (Some (b, [])) →
    to ≤ length read → (to == length read) ≡ false → ⊥
same_end {A} o a b read to e e' l f =
    let z : ◌≡◌ {A = Option (A × List ℕ)} (Some (a, drop to read)) (Some (b, [])) = sym e ∙ e' in
    let y : ◌≡◌ {A = A × List ℕ} (a, drop to read) (b, []) = cc in
    let x : drop to read ≡ [] = ap (λ (p : A × List ℕ). p.1) y in
    let n = ap length x in
    let d = length-drop to read in
    let q : to ≡ length read = omega arith in
    let t = eq-eqb to (length read) q in
    cc

pub all_read : {A : Type 0} (o : Option (A × List ℕ)) (a : A) (read : List ℕ) (to : ℕ) →
    ◌≡◌ {A = Option (A × List ℕ)} o (Some (a, drop to read)) → (to == length read) ≡ true →
    ◌≡◌ {A = Option (A × List ℕ)} o (Some (a, []))
all_read {A} o a read to e t =
    let q = eqb-true to (length read) t in
    e ∙ ap (λ (s : List ℕ). Some (a, s)) (drop_all to read (omega arith))

pub is_whole_name : (read : List ℕ) (x : NodeName) →
    ◌≡◌ {A = Option (NodeName × List ℕ)} (front_name read) (Some (x, [])) → IsField field.Name read
is_whole_name read x e = let s = name_sound read x [] e in (x, s.1, s.0 ∙ append-nil (name_text x))

pub number_begins_only : (read : List ℕ) → read ≢ [] → Begins field.Number read → IsField field.Number read
number_begins_only read ne (more, (n, l, e)) = let w = number_prefix read more n l e ne in is_whole read w.0 w.1

-- ---- names of rules

pub rule_sound : (bs : List ℕ) (r : Rule) (rest : List ℕ) → front_rule bs ≡ Some (r, rest) → bs ≡ rule_text r ++ rest
rule_sound bs r rest e = rule_sound_of all_rules bs r rest e

rule_alone : (r : Rule) → front_rule (rule_text r) ≡ Some (r, [])
rule_alone rule.Beta = refl
rule_alone rule.Fan = refl
rule_alone rule.Croissant = refl
rule_alone rule.Bracket = refl
rule_alone rule.CrossFan = refl
rule_alone rule.CrossCroissant = refl
rule_alone rule.CrossBracket = refl
rule_alone rule.Erase = refl

pub is_whole_rule : (read : List ℕ) (r : Rule) →
    ◌≡◌ {A = Option (Rule × List ℕ)} (front_rule read) (Some (r, [])) → IsField field.Rule read
is_whole_rule read r e = (r, rule_sound read r [] e ∙ append-nil (rule_text r))

pub whole_rule : (read : List ℕ) → IsField field.Rule read →
    (r : Rule) × (◌≡◌ {A = Option (Rule × List ℕ)} (front_rule read) (Some (r, [])))
whole_rule read (r, e) = (r, ap front_rule e ∙ rule_alone r)

-- ---- the first line

pub not_header : (read more : List ℕ) (form : Form) → header_of form ≡ (read ++ more) ++ 10 ∷ [] →
    ((m : List ℕ) → codes "ol trace 1" ≢ read ++ m) → ((m : List ℕ) → codes "ol trace 2" ≢ read ++ m) → ⊥
not_header read more One e a b = a more (same_from_push (codes "ol trace 1") (read ++ more) 10 10 e).0
not_header read more Two e a b = b more (same_from_push (codes "ol trace 2") (read ++ more) 10 10 e).0

pub no_header : (read : List ℕ) → ((m : List ℕ) → codes "ol trace 1" ≢ read ++ m) →
    ((m : List ℕ) → codes "ol trace 2" ≢ read ++ m) → Begins field.Header read → ⊥
no_header read a b (more, (form, e)) = not_header read more form e a b

pub header_begun : (read : List ℕ) → (m : List ℕ) × (codes "ol trace 1" ≡ read ++ m) → Begins field.Header read
header_begun read (m, e) = (m, (One, ap (λ (s : List ℕ). s ++ 10 ∷ []) e))

pub other_begun : (read : List ℕ) → (m : List ℕ) × (codes "ol trace 2" ≡ read ++ m) → Begins field.Header read
other_begun read (m, e) = (m, (Two, ap (λ (s : List ℕ). s ++ 10 ∷ []) e))

pub whole_header : (read : List ℕ) → length read ≡ 10 → Begins field.Header read → IsField field.Header read
whole_header read l (m, (form, e)) =
    let n = header_long form in
    let z = ap length e in
    let y = length-append (read ++ m) (10 ∷ []) in
    let x = length-append read m in
    let q : length m ≡ 0 = omega arith in (
      form,
      e ∙ ap (λ (m : List ℕ). (read ++ m) ++ 10 ∷ []) (nil_from_length m q)
          ∙ ap (λ (s : List ℕ). s ++ 10 ∷ []) (append-nil read),
    )

pub header_ten : (read : List ℕ) → IsField field.Header read → length read ≡ 10
header_ten read (form, e) =
    let n = header_long form in
    let z = ap length e in
    let y = length-append read (10 ∷ []) in
    omega arith

pub header_begins_so : (read : List ℕ) → IsField field.Header read → Begins field.Header read
header_begins_so read h = ([], subst (λ u. IsField field.Header u) (sym (append-nil read)) h)

-- ---- the last byte

pub dotted : (read : List ℕ) (b : ℕ) → 0 < length read → get_or read (length read - 1) 0 ≡ b →
    read ≡ take (length read - 1) read ++ b ∷ []
dotted read b l e =
    let q : length read - 1 + 1 ≡ length read = omega arith in
    sym (take_all (length read) read (omega arith)) ∙ ap (λ n. take n read) (sym q)
    ∙ take_more read (length read - 1) 0 (omega arith)
    ∙ ap (λ b. take (length read - 1) read ++ b ∷ []) e

pub last_is : (read front : List ℕ) (b : ℕ) → read ≡ front ++ b ∷ [] → get_or read (length read - 1) 0 ≡ b
last_is read front b e =
    let n = ap length e in
    let y = length-append front (b ∷ []) in
    ap (λ (s : List ℕ). get_or s (length read - 1) 0) e ∙ get_or_push front b 0 (length read - 1) (omega arith)

pub some_bytes : (read : List ℕ) (r : Bool) → r ≡ (length read == 0) → r ≡ false → 0 < length read
some_bytes [] r e f = let z : true ≡ false = sym e ∙ f in absurd (cc)
some_bytes (b ∷ bs) r e f = omega arith

-- ---- no field and its end stand here

pub none_first : (f : Field) (t : List ℕ) (c : ℕ) → After f t ≡ None → IsEnd f c →
    (u w : List ℕ) → IsField f u → t ≢ u ++ c ∷ w
none_first f t c e end u w h q =
    let z : None ≡ Some (c ∷ w) = sym e ∙ ap (After f) q ∙ after_field f u c w h end in
    cc

pub none_second : (f : Field) (t : List ℕ) (c : ℕ) (rest : List ℕ) → After f t ≡ Some rest → behind c rest ≡ None →
    IsEnd f c → (u w : List ℕ) → IsField f u → t ≢ u ++ c ∷ w
none_second f t c rest e n end u w h q =
    let z : Some rest ≡ Some (c ∷ w) = sym e ∙ ap (After f) q ∙ after_field f u c w h end in
    let y : rest ≡ c ∷ w = cc in
    let x : behind c rest ≡ Some w = ap (behind c) y ∙ ap (λ v. if v then Some w else None) (eq-eqb c c refl) in
    let v : None ≡ Some w = sym n ∙ x in
    cc
