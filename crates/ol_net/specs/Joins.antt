-- The ends that the joins of a replacement have.
use Rattle.std.specs.Prelude.{◌≡◌, ℕ, zero, suc, ◌+◌, Bool, true, false, ◌==◌, ◌&&◌, not, slice_get, ◌↔◌}
use Rattle.std.specs.Prelude.{if◌then◌else◌, List, [], ◌∷◌, ◌++◌, Option, Some, None, option_map}
use Rattle.ol_net.specs.declared.parts.JoinEnd.{JoinEnd}
use Rattle.ol_net.specs.declared.parts.JoinEnd.TheVariants.{First, Second, Born}
use Rattle.ol_net.specs.declared.parts.Kind.{Kind}
use Rattle.ol_net.specs.Parts.{arity, slots_of}
use Rattle.ol_net.specs.Graph.{has_slot}

abbrev pub same_end : JoinEnd → JoinEnd → Bool
same_end (First s) (First t) = s == t
same_end (Second s) (Second t) = s == t
same_end (Born p s) (Born q t) = (p == q) && (s == t)
same_end _ _ = false

-- n slots of a node, from slot t on
abbrev pub ends_from : (ℕ → JoinEnd) → ℕ → ℕ → List JoinEnd
ends_from f t zero = []
ends_from f t (suc n) = f t ∷ ends_from f (t + 1) n

-- all slots of a node, and those but the principal one
abbrev pub all_ends : (ℕ → JoinEnd) → Kind → List JoinEnd
all_ends f k = ends_from f 0 (slots_of k)

abbrev pub side_ends : (ℕ → JoinEnd) → Option (Kind × ℕ) → List JoinEnd
side_ends f None = []
side_ends f (Some k) = ends_from f 1 (arity k.0)

-- the slots of born nodes, the first of which stands at place p
abbrev pub born_ends : ℕ → List (Kind × ℕ) → List JoinEnd
born_ends p [] = []
born_ends p (k ∷ ks) = all_ends (Born p) k.0 ++ born_ends (p + 1) ks

-- the open ends of a replacement: the slots of the two nodes that go, but the principal ones, and
-- all slots of those that come
abbrev pub open_ends : Option (Kind × ℕ) → Option (Kind × ℕ) → List (Kind × ℕ) → List JoinEnd
open_ends first second born = side_ends First first ++ side_ends Second second ++ born_ends 0 born

-- the list without the first e in it, if there is one
abbrev pub remove_end : JoinEnd → List JoinEnd → Option (List JoinEnd)
remove_end e [] = None
remove_end e (x ∷ xs) = if same_end e x then Some xs else option_map (λ ys. x ∷ ys) (remove_end e xs)

abbrev pub and_then_end : Option (List JoinEnd) → (List JoinEnd → Bool) → Bool
and_then_end None f = false
and_then_end (Some xs) f = f xs

-- each of these ends stands in exactly one join, and nothing else does
abbrev pub uses_up : List (JoinEnd × JoinEnd) → List JoinEnd → Bool
uses_up [] [] = true
uses_up [] (e ∷ ends) = false
uses_up (j ∷ js) ends = and_then_end (remove_end j.0 ends) (λ left. and_then_end (remove_end j.1 left) (uses_up js))

-- whether an end is open: a slot of at least 1 of a node that goes, or a slot of a born node
abbrev pub is_open : Option (Kind × ℕ) → Option (Kind × ℕ) → List (Kind × ℕ) → JoinEnd → Bool
is_open first second born (First s) = has_slot first s && not (s == 0)
is_open first second born (Second s) = has_slot second s && not (s == 0)
is_open first second born (Born p s) = has_slot (slice_get born p) s

-- how often e stands in joins
abbrev pub times_joined : JoinEnd → List (JoinEnd × JoinEnd) → ℕ
times_joined e [] = 0
times_joined e (j ∷ js) = (if same_end e j.0 then 1 else 0) + (if same_end e j.1 then 1 else 0) + times_joined e js

-- Each slot of at least 1 of the two nodes stands in exactly one join, so does each slot of each born node, and nothing
-- else stands in a join.
abbrev pub EachOpenEndOnce : Option (Kind × ℕ) → Option (Kind × ℕ) → List (Kind × ℕ) → List (JoinEnd × JoinEnd) → Type 0
EachOpenEndOnce first second born joins = (e : JoinEnd) →
    times_joined e joins ≡ (if is_open first second born e then 1 else 0)

-- this is what it says that joins use up the open ends
abbrev pub FitIsOnce : Type 0
FitIsOnce = (first second : Option (Kind × ℕ)) (born : List (Kind × ℕ)) (joins : List (JoinEnd × JoinEnd)) →
    (uses_up joins (open_ends first second born) ≡ true) ↔ EachOpenEndOnce first second born joins
