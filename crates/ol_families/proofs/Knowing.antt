-- A step keeps to the degrees that are known.
use Rattle.std.proofs.Common.{◌≡◌, ℕ, ◌+◌, ◌-◌, ◌<◌, ◌≤◌, ◌==◌, nat_lt, if◌then◌else◌, Bool, true, false, List, []}
use Rattle.std.proofs.Common.{◌∷◌, ◌++◌, length, Option, Some, None, ap, ◌∙◌, subst}
use Rattle.std.specs.Option.{option_map}
use Rattle.ol_law_optimality.specs.Labels.{Label}
use Rattle.ol_law_optimality.specs.Labels as labels
use Rattle.ol_families.specs.declared.degrees.Letter.{Letter}
use Rattle.ol_families.specs.declared.degrees.Letter.TheVariants.{Over, Under}
use Rattle.ol_families.specs.Held.{Held, var, free, lam, app, before, shifted, substituted, applied, contracted}
use Rattle.ol_families.specs.Held.{degree, degree_of_abstraction}
use Rattle.ol_families.specs.Tables.{AreKnown, IsKnown, labelled, label_of}
use Rattle.ol_families.proofs.Rows.{known_more, known_append, label_more}

pub all_more : (n m : ℕ) (t : Held) → n ≤ m → IsKnown n t → IsKnown m t
all_more n m (var k w) l h = known_more n m w l h
all_more n m (free k w) l h = known_more n m w l h
all_more n m (lam b w) l h = (known_more n m w l h.0, all_more n m b l h.1)
all_more n m (app f a w) l h = (known_more n m w l h.0, all_more n m f l h.1, all_more n m a l h.2)

pub named_more : (ls ms : List Label) (t : Held) → IsKnown (length ls) t → labelled (ls ++ ms) t ≡ labelled ls t
named_more ls ms (var k w) h = ap (labels.var k) (label_more ls ms w h)
named_more ls ms (free k w) h = ap (labels.free k) (label_more ls ms w h)
named_more ls ms (lam b w) h =
    ap (λ b. labels.lam b (label_of (ls ++ ms) w)) (named_more ls ms b h.1)
    ∙ ap (labels.lam (labelled ls b)) (label_more ls ms w h.0)
named_more ls ms (app f a w) h =
    ap (λ f. labels.app f (labelled (ls ++ ms) a) (label_of (ls ++ ms) w)) (named_more ls ms f h.1)
    ∙ ap (λ a. labels.app (labelled ls f) a (label_of (ls ++ ms) w)) (named_more ls ms a h.2)
    ∙ ap (labels.app (labelled ls f) (labelled ls a)) (label_more ls ms w h.0)

module _ (n : ℕ) where
  known_before : (v : List Letter) (t : Held) → AreKnown n v → IsKnown n t → IsKnown n (before v t)
  known_before v (var k w) g h = known_append n v w g h
  known_before v (free k w) g h = known_append n v w g h
  known_before v (lam b w) g h = (known_append n v w g h.0, h.1)
  known_before v (app f a w) g h = (known_append n v w g h.0, h.1, h.2)

  known_shifted : (m d : ℕ) (t : Held) → IsKnown n t → IsKnown n (shifted m d t)
  known_shifted m d (var k w) h = h
  known_shifted m d (free k w) h = h
  known_shifted m d (lam b w) h = (h.0, known_shifted m (d + 1) b h.1)
  known_shifted m d (app f a w) h = (h.0, known_shifted m d f h.1, known_shifted m d a h.2)

  known_if : (b : Bool) (t u : Held) → IsKnown n t → IsKnown n u → IsKnown n (if b then t else u)
  known_if true t u g h = g
  known_if false t u g h = h

  known_substituted : (c : Held) (d : ℕ) (t : Held) → IsKnown n c → IsKnown n t → IsKnown n (substituted c d t)
  known_substituted c d (var k w) g h =
      known_if (nat_lt k d) (var k w) (if k == d then before w (shifted d 0 c) else var (k - 1) w) h
      (known_if (k == d) (before w (shifted d 0 c)) (var (k - 1) w)
      (known_before w (shifted d 0 c) h (known_shifted d 0 c g)) h)
  known_substituted c d (free k w) g h = h
  known_substituted c d (lam b w) g h = (h.0, known_substituted c (d + 1) b g h.1)
  known_substituted c d (app f a w) g h = (h.0, known_substituted c d f g h.1, known_substituted c d a g h.2)

  abbrev IfKnown : Option Held → Type 0
  IfKnown None = Unit {0}
  IfKnown (Some t) = IsKnown n t

  if_known : (b : Bool) (s t : Option Held) → IfKnown s → IfKnown t → IfKnown (if b then s else t)
  if_known true s t g h = g
  if_known false s t g h = h

  map_known : (f : Held → Held) (o : Option Held) → ((t : Held) → IsKnown n t → IsKnown n (f t)) → IfKnown o →
      IfKnown (option_map f o)
  map_known f None g h = tt
  map_known f (Some t) g h = g t h

  module _ (k : ℕ) (l : k < n) where
    applied_known : (f c : Held) (w : List Letter) → IsKnown n f → IsKnown n c → AreKnown n w → IfKnown (applied k f c w)
    applied_known (var j v) c w g h i = tt
    applied_known (free j v) c w g h i = tt
    applied_known (lam b v) c w g h i =
        known_before (w ++ Over k ∷ []) (substituted (before (Under k ∷ []) c) 0 b)
        (known_append n w (Over k ∷ []) i (l, tt))
        (known_substituted (before (Under k ∷ []) c) 0 b (known_before (Under k ∷ []) c (l, tt) h) g.1)
    applied_known (app f a v) c w g h i = tt

    contracted_known : (t : Held) (at : List ℕ) → IsKnown n t → IfKnown (contracted k t at)
    contracted_known (var j w) at h = tt
    contracted_known (free j w) at h = tt
    contracted_known (lam b w) [] h = tt
    contracted_known (lam b w) (m ∷ at) h =
        if_known (m == 0) (option_map (λ b. lam b w) (contracted k b at)) None
        (map_known (λ b. lam b w) (contracted k b at) (λ b g. (h.0, g)) (contracted_known b at h.1)) tt
    contracted_known (app f c w) [] h = applied_known f c w h.1 h.2 h.0
    contracted_known (app f c w) (m ∷ at) h =
        if_known (m == 1) (option_map (λ g. app g c w) (contracted k f at))
        (if m == 2 then option_map (λ a. app f a w) (contracted k c at) else None)
        (map_known (λ g. app g c w) (contracted k f at) (λ g i. (h.0, i, h.2)) (contracted_known f at h.1))
        (if_known (m == 2) (option_map (λ a. app f a w) (contracted k c at)) None
        (map_known (λ a. app f a w) (contracted k c at) (λ a i. (h.0, h.1, i)) (contracted_known c at h.2)) tt)

    pub step_known : (t : Held) (at : List ℕ) (u : Held) → IsKnown n t → contracted k t at ≡ Some u → IsKnown n u
    step_known t at u h e = subst IfKnown e (contracted_known t at h)

  abbrev IfRowKnown : Option (List Letter) → Type 0
  IfRowKnown None = Unit {0}
  IfRowKnown (Some r) = AreKnown n r

  if_row_known : (b : Bool) (s t : Option (List Letter)) → IfRowKnown s → IfRowKnown t → IfRowKnown (if b then s else t)
  if_row_known true s t g h = g
  if_row_known false s t g h = h

  abstraction_known : (f : Held) → IsKnown n f → IfRowKnown (degree_of_abstraction f)
  abstraction_known (var k w) h = tt
  abstraction_known (free k w) h = tt
  abstraction_known (lam b w) h = h.0
  abstraction_known (app f a w) h = tt

  row_known : (t : Held) (at : List ℕ) → IsKnown n t → IfRowKnown (degree t at)
  row_known (var k w) at h = tt
  row_known (free k w) at h = tt
  row_known (lam b w) [] h = tt
  row_known (lam b w) (m ∷ at) h = if_row_known (m == 0) (degree b at) None (row_known b at h.1) tt
  row_known (app f c w) [] h = abstraction_known f h.1
  row_known (app f c w) (m ∷ at) h =
      if_row_known (m == 1) (degree f at) (if m == 2 then degree c at else None) (row_known f at h.1)
      (if_row_known (m == 2) (degree c at) None (row_known c at h.2) tt)

  pub degree_known : (t : Held) (at : List ℕ) (r : List Letter) → IsKnown n t → degree t at ≡ Some r → AreKnown n r
  degree_known t at r h e = subst IfRowKnown e (row_known t at h)
