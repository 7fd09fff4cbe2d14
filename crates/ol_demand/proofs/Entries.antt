-- A step of a pair as an entry of a journal, under the names of a run.
use Rattle.std.proofs.Common.{◌≡◌, ℕ, zero, suc, ◌+◌, ◌-◌, ◌<◌, ◌≤◌, List, [], ◌∷◌, ◌++◌, length, get_or, if◌then◌else◌}
use Rattle.std.proofs.Common.{Bool, true, false, nat_lt, ◌⊎◌, inl, inr, refl, sym, ap, ◌∙◌, subst, arith, add-one}
use Rattle.std.proofs.lemmas.Bool.{cases_lt}
use Rattle.std.proofs.lemmas.Bool.Decides.{nat_tests}
use Rattle.std.proofs.lemmas.List.{get_or_append_left, get_or-append_right, get_or_push, length_push}
use Rattle.ol_net.specs.declared.parts.Rule.{Rule}
use Rattle.ol_net.specs.Graph.{Graph}
use Rattle.ol_net.specs.Nets.{slot, Linked, IsNet, net_under}
use Rattle.ol_net.specs.Numbered.{net_of}
use Rattle.ol_rules.specs.declared.journal.NodeName.{NodeName}
use Rattle.ol_rules.specs.declared.journal.NodeName.TheVariants.{Init, Born}
use Rattle.ol_rules.specs.declared.journal.Entry.{Entry}
use Rattle.ol_rules.specs.Names.{IsNamed}
use Rattle.ol_rules.specs.Rewriting.{IsStep}
use Rattle.ol_rules.specs.Runs.{names_born}
use Rattle.ol_rules.specs.UnderWay.{name_in, Advances}
use Rattle.ol_rules.specs.Steps.{StepsAt}
use Rattle.ol_rules.proofs.NameOrder.{Names, names_apart, names_after, names_after_old, names_on}
use Rattle.ol_rules.proofs.Renaming.{step_under}
use Rattle.ol_rules.proofs.OnTheWay.{entry_names, length-names_born}
use Rattle.ol_demand.specs.Asking.{IsNaming, AreNamesOf}
use Rattle.ol_rules.specs.declared.under_way.UnderWay.{UnderWay}

pub as_names : (start next ticket : ℕ) (m : ℕ → NodeName) → IsNaming start next ticket m → Names start next ticket m
as_names start next ticket m n = record { room = n.room; initial = n.initial; rising = n.rising; born = n.born }

pub is_naming : (start next ticket : ℕ) (m : ℕ → NodeName) → Names start next ticket m → IsNaming start next ticket m
is_naming start next ticket m n = record { room = n.room; initial = n.initial; rising = n.rising; born = n.born }

pub one_name : (start next ticket : ℕ) (m : ℕ → NodeName) → IsNaming start next ticket m → (x y : ℕ) → m x ≡ m y → x ≡ y
one_name start next ticket m n = names_apart start next ticket m (as_names start next ticket m n)

-- the step of x and y, of which x has the smaller number
module _ (g g' : Graph) (is_net : IsNet (net_of g)) (x y : ℕ) (r : Rule) (s : StepsAt g g' x r)
    (l : Linked (net_of g) (slot x 0) (slot y 0)) where
  module _ (lesser : x < y) (start t : ℕ) (m : ℕ → NodeName) (n : IsNaming start (length g.nodes) t m) where
    abbrev entry : Entry
    entry = record { rule = r; first = m x; second = m y }

    pub named_entry : IsNamed entry (m s.f) (m s.g)
    named_entry = entry_names g g' is_net x y r s l lesser start t m (as_names start (length g.nodes) t m n)

    abbrev StepBy : (ℕ → NodeName) → Type 0
    StepBy born = IsStep born (net_under m (net_of g)) (m s.f) (m s.g) r (net_under m (net_of g'))

    pub named_step : StepBy (λ p. Born t p)
    named_step =
        let u = step_under m (one_name start (length g.nodes) t m n) (λ p. length g.nodes + p)
        (net_of g) s.f s.g r (net_of g') s.step in
        subst StepBy (λ i. λ p. n.born p i) u.0

name_born : (t b p : ℕ) (d : NodeName) → p < b → get_or (names_born t b) p d ≡ Born t p
name_born t zero p d h = absurd (omega arith)
name_born t (suc b) p d h = go (name_born t b p d) (cases_lt p b)
  where
    l : length (names_born t b) ≡ b
    l = length-names_born t b

    go : (p < b → get_or (names_born t b) p d ≡ Born t p) → (p < b) ⊎ (b ≤ p) →
        get_or (names_born t b ++ Born t b ∷ []) p d ≡ Born t p
    go before (inl z) = (let y = l in get_or_append_left (names_born t b) (Born t b ∷ []) d p (omega arith)) ∙ before z
    go before (inr z) = (let y = l in get_or_push (names_born t b) (Born t b) d p (omega arith))
        ∙ ap (Born t) (let e : b ≡ p = omega arith in e)

-- the names that are kept, with those of one more ticket
listed_on : (start next t b : ℕ) (names : List NodeName) (m : ℕ → NodeName) →
    start + length names ≡ next → ((p : ℕ) → m (next + p) ≡ Born t p) →
    ((k : ℕ) → k < next → name_in start names k ≡ m k) →
    (k : ℕ) → k < next + b → name_in start (names ++ names_born t b) k ≡ m k
listed_on start next t b names m c born listed k h = go (cases_lt k start) (cases_lt k next)
  where
    some : start ≤ k → k < next → get_or (names ++ names_born t b) (k - start) (Init k) ≡ m k
    some x y =
        let e : nat_lt k start ≡ false = grind (arith, nat_tests) in
        let z : get_or names (k - start) (Init k) ≡ m k = ap
        (λ (v : Bool). if v then Init k else get_or names (k - start) (Init k)) (sym e) ∙ listed k y in
        get_or_append_left names (names_born t b) (Init k) (k - start) (omega arith) ∙ z

    go : (k < start) ⊎ (start ≤ k) → (k < next) ⊎ (next ≤ k) → name_in start (names ++ names_born t b) k ≡ m k
    go (inl x) y =
        let e : nat_lt k start ≡ true = grind (arith, nat_tests) in
        let z : Init k ≡ m k = ap (λ (v : Bool).
        if v then Init k else get_or names (k - start) (Init k)) (sym e) ∙ listed k (omega arith) in
        ap (λ (v : Bool). if v then Init k else get_or (names ++ names_born t b) (k - start) (Init k)) e ∙ z
    go (inr x) (inl y) =
        let e : nat_lt k start ≡ false = grind (arith, nat_tests) in
        ap (λ (v : Bool). if v then Init k else get_or (names ++ names_born t b) (k - start) (Init k)) e ∙ some x y
    go (inr x) (inr y) =
        let e : nat_lt k start ≡ false = grind (arith, nat_tests) in
        let q : next + (k - start - length names) ≡ k = omega arith in
        ap (λ (v : Bool). if v then Init k else get_or (names ++ names_born t b) (k - start) (Init k)) e
        ∙ get_or-append_right names (names_born t b) (length names) (k - start) (Init k) refl (omega arith)
        ∙ name_born t b (k - start - length names) (Init k) (omega arith)
        ∙ sym (born (k - start - length names)) ∙ ap m q

-- the names after a step was written down
abbrev pub after_step : Graph → UnderWay → (ℕ → NodeName) → ℕ → NodeName
after_step g' run m = names_after m (length g'.nodes) (suc (length run.journal))

pub names_of_next : (old g g' : Graph) (run run' : UnderWay) (m : ℕ → NodeName) (x y : ℕ) →
    AreNamesOf old g run m → run.names.start + length run.names.born.items ≡ length g.nodes →
    Advances run run' g g' x y → AreNamesOf old g' run' (after_step g' run m)
names_of_next old g g' run run' m x y n c a = record {
  naming = subst (λ t. IsNaming (length old.nodes) (length g'.nodes) t (after_step g' run m)) (sym count)
      (subst (λ k. IsNaming (length old.nodes) k (suc t) (names_after m k (suc t))) total
      (is_naming (length old.nodes) (length g.nodes + b) (suc t) _
      (names_on (length old.nodes) (length g.nodes) t b m
      (as_names (length old.nodes) (length g.nodes) t m n.naming))));
  start = a.start ∙ n.start;
  listed = λ k h.
      ap (λ s. name_in s run'.names.born.items k) a.start ∙ ap (λ (ns : List NodeName). name_in run.names.start ns k) a.names
      ∙ listed_on run.names.start (length g.nodes) t b run.names.born.items m c n.naming.born n.listed k
      (omega arith) ∙ sym (names_after_old m (length g'.nodes) (suc t) k h);
}
  where
    t : ℕ
    t = length run.journal

    b : ℕ
    b = length g'.nodes - length g.nodes

    total : length g.nodes + (length g'.nodes - length g.nodes) ≡ length g'.nodes
    total = let q = a.step.numbers in omega arith

    count : length run'.journal ≡ suc (length run.journal)
    count = ap (λ (es : List Entry). length es) a.journal ∙ length_push run.journal _ ∙ add-one (length run.journal)
