-- What is read along a row of a net whose links face has no neighbours that cancel, and tells the row.
use Rattle.std.proofs.Common.{◌≡◌, zero, ◌≢◌, ℕ, suc, Bool, true, false, not, List, [], ◌∷◌, ◌++◌, refl, sym, ap, ◌∙◌}
use Rattle.std.proofs.Common.{subst, arith, append-nil}
use Rattle.std.proofs.lemmas.List.{append_assoc}
use Rattle.ol_net.specs.Nets.{NamedPort, slot, NamedNet, HasNode, Linked, IsNet}
use Rattle.ol_net.specs.declared.parts.Kind.{Kind}
use Rattle.ol_net.specs.declared.parts.Kind.TheVariants as kind
use Rattle.ol_rules.proofs.FreshPairs.{linked_sym}
use Rattle.ol_law_optimality.specs.Routes.{Crossing, rise, fall, Row, along, rises, falls}
use Rattle.ol_law_optimality.specs.Words.{turned, Is}
use Rattle.ol_law_optimality.specs.Signs.{Sign, letter_of, begins_over, ends_over, begins_under, ends_under}
use Rattle.ol_law_optimality.specs.Signs.{Signs, onward, backward, Signed, nothing, shared_up, shared_down}
use Rattle.ol_law_optimality.specs.Signs as signs
use Rattle.ol_law_optimality.specs.Readings.{AreAlike}
use Rattle.ol_law_optimality.proofs.Facing.{gives, IsSide, IsFacing, one_side}
use Rattle.ol_law_optimality.proofs.Rows.{no_slots, turned_back}
use Rattle.ol_law_optimality.proofs.Spelling.{fits, is_reduced, flipped, alike_words}

-- the slots at which a term begins that is a part: an application's function and argument, and an abstraction's body
abbrev pub has_letter : Kind → ℕ → Bool
has_letter kind.App zero = true
has_letter kind.App (suc zero) = false
has_letter kind.App (suc (suc zero)) = true
has_letter kind.App (suc (suc (suc s))) = false
has_letter kind.Lam zero = false
has_letter kind.Lam (suc zero) = true
has_letter kind.Lam (suc (suc s)) = false
has_letter kind.Fan s = false
has_letter kind.Croissant s = false
has_letter kind.Bracket s = false
has_letter kind.Eraser s = false

abbrev pub IsEdge : {A : Type 0} → NamedNet A → A → ℕ → Type 0
IsEdge N x s = (k : Kind) × (i : ℕ) × HasNode N x k i × (has_letter k s ≡ true)

-- no two of the net's edges have one letter
abbrev pub HaveLetters : {A : Type 0} → NamedNet A → (A → ℕ → ℕ) → Type 0
HaveLetters {A} N letter = (x y : A) (s r : ℕ) → IsEdge N x s → IsEdge N y r → letter x s ≡ letter y r →
    (x ≡ y) × (s ≡ r)

-- ---- a row from port to port, by the side of each: false where a term is asked for

module _ {A : Type 0} (N : NamedNet A) (letter : A → ℕ → ℕ) where
  -- one crossing of an application or an abstraction: the ports, the side of the one that is left, and what is read
  pub data Piece : Bool → NamedPort A → Crossing A → NamedPort A → Bool → Signs → Type 0 where
    to_function : {y : A} → Is N y kind.App → Piece false (slot y 1) (rise y 0) (slot y 0) false
        (onward begins_over ∷ onward (letter_of (letter y 0)) ∷ [])
    to_body : {z : A} → Is N z kind.Lam → Piece false (slot z 0) (fall z 0) (slot z 1) false
        (onward ends_over ∷ onward (letter_of (letter z 1)) ∷ [])
    from_variable : {z : A} → Is N z kind.Lam → Piece false (slot z 2) (rise z 1) (slot z 0) true
        (onward begins_under ∷ [])
    to_variable : {z : A} → Is N z kind.Lam → Piece false (slot z 0) (fall z 1) (slot z 2) true
        (backward begins_under ∷ [])
    from_function : {y : A} → Is N y kind.App → Piece true (slot y 0) (fall y 0) (slot y 1) true
        (backward (letter_of (letter y 0)) ∷ backward begins_over ∷ [])
    to_argument : {y : A} → Is N y kind.App → Piece true (slot y 0) (fall y 1) (slot y 2) false
        (backward (letter_of (letter y 0)) ∷ onward ends_under ∷ onward (letter_of (letter y 2)) ∷ [])
    from_argument : {y : A} → Is N y kind.App → Piece true (slot y 2) (rise y 1) (slot y 0) false
        (backward (letter_of (letter y 2)) ∷ backward ends_under ∷ onward (letter_of (letter y 0)) ∷ [])
    from_body : {z : A} → Is N z kind.Lam → Piece true (slot z 1) (rise z 0) (slot z 0) true
        (backward (letter_of (letter z 1)) ∷ backward ends_over ∷ [])

  abbrev pub IsShared : A → Type 0
  IsShared x = (k : Kind) × Is N x k × (k ≢ kind.App) × (k ≢ kind.Lam)

  pub data Phase : Bool → NamedPort A → List (Crossing A) → Signs → Type 0 where
    ends : {p : NamedPort A} (z : A) → Is N z kind.Lam → Linked N p (slot z 0) → Phase false p [] []
    share_up : {p : NamedPort A} {x : A} {s : ℕ} {r : List (Crossing A)} {a : Signs} → IsShared x →
        Linked N p (slot x (suc s)) → Phase false (slot x 0) r a → Phase false p (rise x s ∷ r) a
    share_down : {p : NamedPort A} {x : A} {s : ℕ} {r : List (Crossing A)} {a : Signs} → IsShared x →
        Linked N p (slot x 0) → Phase true (slot x (suc s)) r a → Phase true p (fall x s ∷ r) a
    piece : {b d : Bool} {p e l : NamedPort A} {c : Crossing A} {r : List (Crossing A)} {a : Signs} (g : Signs) →
        Linked N p e → Piece b e c l d g → Phase d l r a → Phase b p (c ∷ r) (g ++ a)

  -- ---- a row is such a one

  module _ (n : IsNet N) (faces : IsFacing N) where
    not_one : (b c : Bool) → not b ≡ c → b ≡ not c
    not_one true true e = absurd (cc)
    not_one true false e = refl
    not_one false true e = refl
    not_one false false e = absurd (cc)

    -- the side of the port that is left
    side_is : (p q : NamedPort A) (b c : Bool) → Linked N p q → IsSide N p b → IsSide N q c → not c ≡ b
    side_is p q b c l h k =
        let o = faces p q l in
        let e = one_side N n p o.0 b o.1 h in
        let f = one_side N n q (not o.0) c o.2 k in
        sym (not_one o.0 c f) ∙ e

    shared_gives : (k : Kind) (s : ℕ) → k ≢ kind.App → k ≢ kind.Lam → gives k (suc s) ≡ true
    shared_gives kind.App s f g = absurd (f refl)
    shared_gives kind.Lam s f g = absurd (g refl)
    shared_gives kind.Fan s f g = refl
    shared_gives kind.Croissant s f g = refl
    shared_gives kind.Bracket s f g = refl
    shared_gives kind.Eraser s f g = refl

    shared_asks : (k : Kind) → k ≢ kind.App → k ≢ kind.Lam → gives k 0 ≡ false
    shared_asks kind.App f g = absurd (f refl)
    shared_asks kind.Lam f g = absurd (g refl)
    shared_asks kind.Fan f g = refl
    shared_asks kind.Croissant f g = refl
    shared_asks kind.Bracket f g = refl
    shared_asks kind.Eraser f g = refl

    turn_to : {p e l : NamedPort A} {c : Crossing A} {r : List (Crossing A)} {a : Signs} (b b' d : Bool) (g : Signs) →
        Linked N p e → IsSide N p b' → IsSide N e (not b) → not (not b) ≡ b →
        Piece b e c l d g → Phase d l r a → Phase b' p (c ∷ r) (g ++ a)
    turn_to {p} {e} {l} {c} {r} {a} b b' d g k h m w x y =
        subst (λ b. Phase b p (c ∷ r) (g ++ a)) (sym w ∙ side_is p e b' (not b) k h m) (piece g k x y)

    pub phase_of : {p q : NamedPort A} {r : List (Crossing A)} {a : Signs} (b : Bool) (z : A) → Row N p r q →
        q ≡ slot z 0 → Is N z kind.Lam → Signed N letter r a → IsSide N p b → Phase b p r a
    phase_of {p} b z (along {q = q} l) e h nothing t =
        let l' = subst (Linked N p) e l in
        subst (λ b. Phase b p [] []) (side_is p (slot z 0) b true l' t (kind.Lam, h.0, h.1, refl)) (ends z h l')
    phase_of {p} b z (rises {x = x} {s = s} {w = w} k i l m low row) e h (shared_up {a = a} K o f g S) t =
        subst (λ b. Phase b p (rise x s ∷ w) a)
        (side_is p (slot x (suc s)) b true l t (K, o.0, o.1, shared_gives K s f g))
        (share_up (K, o, f, g) l (phase_of false z row e h S (K, o.0, o.1, shared_asks K f g)))
    phase_of {p} b z (falls {x = x} {s = s} {w = w} k i l m low row) e h (shared_down {a = a} K o f g S) t =
        subst (λ b. Phase b p (fall x s ∷ w) a)
        (side_is p (slot x 0) b false l t (K, o.0, o.1, shared_asks K f g))
        (share_down (K, o, f, g) l (phase_of true z row e h S (K, o.0, o.1, shared_gives K s f g)))
    phase_of b z (rises {x = x} k i l m low row) e h (signs.to_function o S) t =
        turn_to false b false _ l t (kind.App, o.0, o.1, refl) refl (to_function o)
        (phase_of false z row e h S (kind.App, o.0, o.1, refl))
    phase_of b z (falls k i l m low row) e h (signs.from_function o S) t =
        turn_to true b true _ l t (kind.App, o.0, o.1, refl) refl (from_function o)
        (phase_of true z row e h S (kind.App, o.0, o.1, refl))
    phase_of b z (falls k i l m low row) e h (signs.to_body o S) t =
        turn_to false b false _ l t (kind.Lam, o.0, o.1, refl) refl (to_body o)
        (phase_of false z row e h S (kind.Lam, o.0, o.1, refl))
    phase_of b z (rises k i l m low row) e h (signs.from_body o S) t =
        turn_to true b true _ l t (kind.Lam, o.0, o.1, refl) refl (from_body o)
        (phase_of true z row e h S (kind.Lam, o.0, o.1, refl))
    phase_of b z (rises k i l m low row) e h (signs.from_variable o S) t =
        turn_to false b true _ l t (kind.Lam, o.0, o.1, refl) refl (from_variable o)
        (phase_of true z row e h S (kind.Lam, o.0, o.1, refl))
    phase_of b z (falls k i l m low row) e h (signs.to_variable o S) t =
        turn_to false b true _ l t (kind.Lam, o.0, o.1, refl) refl (to_variable o)
        (phase_of true z row e h S (kind.Lam, o.0, o.1, refl))
    phase_of b z (falls k i l m low row) e h (signs.to_argument o S) t =
        turn_to true b false _ l t (kind.App, o.0, o.1, refl) refl (to_argument o)
        (phase_of false z row e h S (kind.App, o.0, o.1, refl))
    phase_of b z (rises k i l m low row) e h (signs.from_argument o S) t =
        turn_to true b false _ l t (kind.App, o.0, o.1, refl) refl (from_argument o)
        (phase_of false z row e h S (kind.App, o.0, o.1, refl))

  -- ---- its signs have no neighbours that cancel

  abbrev Fits : Bool → Signs → Type 0
  Fits false x = (fits (onward begins_over) x ≡ true) × (fits (onward ends_over) x ≡ true)
      × (fits (onward begins_under) x ≡ true) × (fits (backward begins_under) x ≡ true)
  Fits true x = (n : ℕ) → fits (backward (letter_of n)) x ≡ true

  one_more : (p : _) (x : Signs) → fits p x ≡ true → is_reduced x ≡ true → is_reduced (p ∷ x) ≡ true
  one_more p x f h = rw f h

  pub phase_reduced : {b : Bool} {p : NamedPort A} {r : List (Crossing A)} {a : Signs} → Phase b p r a →
      (x : Signs) → is_reduced x ≡ true → Fits b x → is_reduced (flipped a x) ≡ true
  phase_reduced (ends z h l) x k f = k
  phase_reduced (share_up h l y) x k f = phase_reduced y x k f
  phase_reduced (share_down h l y) x k f = phase_reduced y x k f
  phase_reduced (piece g l (to_function {y = v} o) y) x k f = phase_reduced y
      (onward (letter_of (letter v 0)) ∷ onward begins_over ∷ x) (one_more (onward begins_over) x f.0 k) (
        refl,
        refl,
        refl,
        refl,
      )
  phase_reduced (piece g l (to_body {z = v} o) y) x k f = phase_reduced y
      (onward (letter_of (letter v 1)) ∷ onward ends_over ∷ x) (one_more (onward ends_over) x f.1 k) (
        refl,
        refl,
        refl,
        refl,
      )
  phase_reduced (piece g l (from_variable o) y) x k f = phase_reduced y
      (onward begins_under ∷ x) (one_more (onward begins_under) x f.2 k) (λ n. refl)
  phase_reduced (piece g l (to_variable o) y) x k f = phase_reduced y
      (backward begins_under ∷ x) (one_more (backward begins_under) x f.3 k) (λ n. refl)
  phase_reduced (piece g l (from_function {y = v} o) y) x k f = phase_reduced y
      (backward begins_over ∷ backward (letter_of (letter v 0)) ∷ x)
      (one_more (backward (letter_of (letter v 0))) x (f (letter v 0)) k) (λ n. refl)
  phase_reduced (piece g l (to_argument {y = v} o) y) x k f = phase_reduced y
      (onward (letter_of (letter v 2)) ∷ onward ends_under ∷ backward (letter_of (letter v 0)) ∷ x)
      (one_more (backward (letter_of (letter v 0))) x (f (letter v 0)) k) (refl, refl, refl, refl)
  phase_reduced (piece g l (from_argument {y = v} o) y) x k f = phase_reduced y
      (onward (letter_of (letter v 0)) ∷ backward ends_under ∷ backward (letter_of (letter v 2)) ∷ x)
      (one_more (backward (letter_of (letter v 2))) x (f (letter v 2)) k) (refl, refl, refl, refl)
  phase_reduced (piece g l (from_body {z = v} o) y) x k f = phase_reduced y
      (backward ends_over ∷ backward (letter_of (letter v 1)) ∷ x)
      (one_more (backward (letter_of (letter v 1))) x (f (letter v 1)) k) (λ n. refl)

  -- ---- and its row is told by them

  module _ (n : IsNet N) (atoms : HaveLetters N letter) where
    -- down through nodes of sharing, from one port to another; and the same way up
    data Drop : NamedPort A → List (Crossing A) → NamedPort A → Type 0 where
      lands : {p e : NamedPort A} → Linked N p e → Drop p [] e
      drops : {p e : NamedPort A} {x : A} {s : ℕ} {w : List (Crossing A)} → IsShared x → Linked N p (slot x 0) →
          Drop (slot x (suc s)) w e → Drop p (fall x s ∷ w) e

    data Climb : NamedPort A → List (Crossing A) → NamedPort A → Type 0 where
      tops : {p e : NamedPort A} → Linked N e p → Climb e [] p
      climbs : {p e : NamedPort A} {x : A} {s : ℕ} {w : List (Crossing A)} → IsShared x → Linked N e (slot x (suc s)) →
          Climb (slot x 0) w p → Climb e (rise x s ∷ w) p

    climb_of : {p e q : NamedPort A} {w v : List (Crossing A)} → Drop p w e →
        ((e : NamedPort A) → Linked N e p → Climb e v q) → Climb e (turned w ++ v) q
    climb_of {p} {e} (lands l) f = f e (linked_sym N p e l)
    climb_of {p} {e} {q} {v = v} (drops {x = x} {s = s} {w = w} h l d) f =
        subst (λ u. Climb e u q) (sym (append_assoc (turned w) (rise x s ∷ []) v))
        (climb_of {v = rise x s ∷ v} d (λ e m. climbs h m (f (slot x 0) (linked_sym N p (slot x 0) l))))

    abbrev IsPlain : NamedPort A → Type 0
    IsPlain p = (x : A) (s : ℕ) → p ≡ slot x s → IsShared x → ⊥

    slots_one : {x y : A} {s r : ℕ} → ◌≡◌ {A = NamedPort A} (slot x s) (slot y r) → (x ≡ y) × (s ≡ r)
    slots_one e = ((cc), (cc))

    sucs_one : {x y : A} {s r : ℕ} → ◌≡◌ {A = NamedPort A} (slot x (suc s)) (slot y (suc r)) → (x ≡ y) × (s ≡ r)
    sucs_one {s = s} {r = r} e = let q : suc s ≡ suc r = (slots_one e).1 in ((slots_one e).0, (omega arith))

    one_climb : {e p : NamedPort A} {w v : List (Crossing A)} → Climb e w p → Climb e v p → IsPlain p → w ≡ v
    one_climb (tops l) (tops m) f = refl
    one_climb {e} {p} (tops l) (climbs {x = x} {s = s} h m c) f = absurd (f x (suc s) (n.one_link e p (slot x
        (suc s)) l m) h)
    one_climb {e} {p} (climbs {x = x} {s = s} h m c) (tops l) f = absurd (f x (suc s) (n.one_link e p (slot x
        (suc s)) l m) h)
    one_climb {e} {p} (climbs {x = x} {s = s} {w = w} h m c) (climbs {x = y} {s = r} {w = v} h' m' c') f =
        let z = sucs_one (n.one_link e (slot x (suc s)) (slot y (suc r)) m m') in
        let i = one_climb c (subst (λ x. Climb (slot x 0) v p) (sym z.0) c') f in
        ap (λ x. rise x s ∷ w) z.0 ∙ ap (λ s. rise y s ∷ w) z.1 ∙ ap (λ w. rise y r ∷ w) i

    one_drop : {p e : NamedPort A} {w v : List (Crossing A)} → Drop p w e → Drop p v e → IsPlain p → w ≡ v
    one_drop {w = w} {v = v} a b f =
        let i = one_climb (climb_of {v = []} a (λ e l. tops l)) (climb_of {v = []} b (λ e l. tops l)) f in
        sym (turned_back w) ∙ ap turned (sym (append-nil (turned w)) ∙ i ∙ append-nil (turned v)) ∙ turned_back v

    -- two rows that come to one port, and are the same from there
    record Split (p p' : NamedPort A) (r r' : List (Crossing A)) : Type 0 where
      port : NamedPort A
      first : List (Crossing A)
      second : List (Crossing A)
      rest : List (Crossing A)
      drop : Drop p first port
      other : Drop p' second port
      is : r ≡ first ++ rest
      other_is : r' ≡ second ++ rest

    abbrev Outcome : Bool → NamedPort A → NamedPort A → List (Crossing A) → List (Crossing A) → Type 0
    Outcome false p p' r r' = p ≡ p' → r ≡ r'
    Outcome true p p' r r' = Split p p' r r'

    settled : (b : Bool) (p p' : NamedPort A) (r r' : List (Crossing A)) → Outcome b p p' r r' → p ≡ p' →
        IsPlain p → r ≡ r'
    settled false p p' r r' o e f = o e
    settled true p p' r r' o e f =
        let w = one_drop o.drop (subst (λ p. Drop p o.second o.port) (sym e) o.other) f in
        o.is ∙ ap (λ w. w ++ o.rest) w ∙ sym o.other_is

    other_kind : {x y : A} {s r : ℕ} {k : Kind} → Is N y k → slot y r ≡ slot x s → IsShared x → (k ≡ kind.App) → ⊥
    other_kind {x} {y} {s} {r} {k} h e sh q =
        let same = (slots_one e).0 in
        sh.2 (sym (n.one_node y k sh.0 h.0 sh.1.0 h.1 (subst (λ y. HasNode N y sh.0 sh.1.0) (sym same) sh.1.1)).0 ∙ q)

    no_app : {x y : A} {s r : ℕ} → Is N y kind.App → slot y r ≡ slot x s → IsShared x → ⊥
    no_app h e sh = other_kind h e sh refl

    no_lam : {x y : A} {s r : ℕ} → Is N y kind.Lam → slot y r ≡ slot x s → IsShared x → ⊥
    no_lam {x} {y} {s} {r} h e sh =
        let same = (slots_one e).0 in
        sh.3 (sym (n.one_node y kind.Lam sh.0 h.0 sh.1.0 h.1 (subst (λ y. HasNode N y sh.0 sh.1.0)
        (sym same) sh.1.1)).0)

    leaves_plain : {b d : Bool} {e l : NamedPort A} {c : Crossing A} {g : Signs} → Piece b e c l d g → IsPlain l
    leaves_plain (to_function h) = λ x s e sh. no_app h e sh
    leaves_plain (to_body h) = λ x s e sh. no_lam h e sh
    leaves_plain (from_variable h) = λ x s e sh. no_lam h e sh
    leaves_plain (to_variable h) = λ x s e sh. no_lam h e sh
    leaves_plain (from_function h) = λ x s e sh. no_app h e sh
    leaves_plain (to_argument h) = λ x s e sh. no_app h e sh
    leaves_plain (from_argument h) = λ x s e sh. no_app h e sh
    leaves_plain (from_body h) = λ x s e sh. no_lam h e sh

    enters_plain : {b d : Bool} {e l : NamedPort A} {c : Crossing A} {g : Signs} → Piece b e c l d g → IsPlain e
    enters_plain (to_function h) = λ x s e sh. no_app h e sh
    enters_plain (to_body h) = λ x s e sh. no_lam h e sh
    enters_plain (from_variable h) = λ x s e sh. no_lam h e sh
    enters_plain (to_variable h) = λ x s e sh. no_lam h e sh
    enters_plain (from_function h) = λ x s e sh. no_app h e sh
    enters_plain (to_argument h) = λ x s e sh. no_app h e sh
    enters_plain (from_argument h) = λ x s e sh. no_app h e sh
    enters_plain (from_body h) = λ x s e sh. no_lam h e sh

    no_signs : {b d : Bool} {e l : NamedPort A} {c : Crossing A} {g : Signs} (a : Signs) → Piece b e c l d g →
        [] ≡ g ++ a → ⊥
    no_signs a (to_function h) e = absurd (cc)
    no_signs a (to_body h) e = absurd (cc)
    no_signs a (from_variable h) e = absurd (cc)
    no_signs a (to_variable h) e = absurd (cc)
    no_signs a (from_function h) e = absurd (cc)
    no_signs a (to_argument h) e = absurd (cc)
    no_signs a (from_argument h) e = absurd (cc)
    no_signs a (from_body h) e = absurd (cc)

    record SamePiece (e e' : NamedPort A) (c c' : Crossing A) (l l' : NamedPort A) (d d' : Bool)
        (a a' : Signs) : Type 0 where
      enters : e ≡ e'
      crossing : c ≡ c'
      leaves : l ≡ l'
      side : d ≡ d'
      after : a ≡ a'

    heads : {X : Type 0} {x y : X} {s t : List X} → x ∷ s ≡ y ∷ t → (x ≡ y) × (s ≡ t)
    heads e = ((cc), (cc))

    letters : {b d : Bool} {m k : ℕ} → ◌≡◌ {A = Bool × Sign} (b, letter_of m) (d, letter_of k) → m ≡ k
    letters {b} {d} {m} {k} e = let f : letter_of m ≡ letter_of k = ap (λ (p : Bool × Sign). p.1) e in cc

    same_edge : {y y' : A} {a a' : Signs} (s : ℕ) → IsEdge N y s → IsEdge N y' s → (c : A →
        Crossing A) (r t : ℕ) (d : Bool) →
        letter y s ≡ letter y' s → a ≡ a' → SamePiece (slot y t) (slot y' t) (c y) (c y') (slot y r)
        (slot y' r) d d a a'
    same_edge {y = v} {y' = v'} s i i' c r t d e f =
        let y = (atoms v v' s s i i' e).0 in
        record {
          enters = ap (λ y. slot y t) y;
          crossing = ap c y;
          leaves = ap (λ y. slot y r) y;
          side = refl;
          after = f;
        }

    -- from a port at which a term is given, the first sign tells where the row comes to
    given_one : {b b' d d' : Bool} {e e' l l' : NamedPort A} {c c' : Crossing A} {g g' : Signs} (a a' : Signs) →
        Piece b e c l d g → Piece b' e' c' l' d' g' → b ≡ true → b' ≡ true → g ++ a ≡ g' ++ a' →
        SamePiece e e' c c' l l' d d' a a'
    given_one a a' (to_function h) p' u u' e = absurd (cc)
    given_one a a' (to_body h) p' u u' e = absurd (cc)
    given_one a a' (from_variable h) p' u u' e = absurd (cc)
    given_one a a' (to_variable h) p' u u' e = absurd (cc)
    given_one a a' p (to_function h) u u' e = absurd (cc)
    given_one a a' p (to_body h) u u' e = absurd (cc)
    given_one a a' p (from_variable h) u u' e = absurd (cc)
    given_one a a' p (to_variable h) u u' e = absurd (cc)
    given_one a a' (from_function h) (from_function h') u u' e =
        let f = heads e in let g = heads f.1 in same_edge 0 (kind.App, h.0, h.1, refl) (
          kind.App,
          h'.0,
          h'.1,
          refl,
        ) (λ y. fall y 0) 1 0 true (letters f.0) g.1
    given_one a a' (from_function h) (to_argument h') u u' e =
        let f = heads e in let g = heads f.1 in let clash = ap (λ (p : Bool × Sign). p.0) g.0 in absurd (cc)
    given_one a a' (from_function {y = y} h) (from_argument {y = y'} h') u u' e =
        let k = (atoms y y' 0 2 (kind.App, h.0, h.1, refl) (
          kind.App,
          h'.0,
          h'.1,
          refl,
        ) (letters (heads e).0)).1 in absurd (omega arith)
    given_one a a' (from_function {y = y} h) (from_body {z = z} h') u u' e =
        let k = (atoms y z 0 1 (kind.App, h.0, h.1, refl) (
          kind.Lam,
          h'.0,
          h'.1,
          refl,
        ) (letters (heads e).0)).1 in absurd (omega arith)
    given_one a a' (to_argument h) (from_function h') u u' e =
        let f = heads e in let g = heads f.1 in let clash = ap (λ (p : Bool × Sign). p.0) g.0 in absurd (cc)
    given_one a a' (to_argument h) (to_argument h') u u' e =
        let f = heads e in let g = heads f.1 in let k = heads g.1 in same_edge 0 (
          kind.App,
          h.0,
          h.1,
          refl,
        ) (kind.App, h'.0, h'.1, refl) (λ y. fall y 1) 2 0 false (letters f.0) k.1
    given_one a a' (to_argument {y = y} h) (from_argument {y = y'} h') u u' e =
        let k = (atoms y y' 0 2 (kind.App, h.0, h.1, refl) (
          kind.App,
          h'.0,
          h'.1,
          refl,
        ) (letters (heads e).0)).1 in absurd (omega arith)
    given_one a a' (to_argument {y = y} h) (from_body {z = z} h') u u' e =
        let k = (atoms y z 0 1 (kind.App, h.0, h.1, refl) (
          kind.Lam,
          h'.0,
          h'.1,
          refl,
        ) (letters (heads e).0)).1 in absurd (omega arith)
    given_one a a' (from_argument {y = y} h) (from_function {y = y'} h') u u' e =
        let k = (atoms y y' 2 0 (kind.App, h.0, h.1, refl) (
          kind.App,
          h'.0,
          h'.1,
          refl,
        ) (letters (heads e).0)).1 in absurd (omega arith)
    given_one a a' (from_argument {y = y} h) (to_argument {y = y'} h') u u' e =
        let k = (atoms y y' 2 0 (kind.App, h.0, h.1, refl) (
          kind.App,
          h'.0,
          h'.1,
          refl,
        ) (letters (heads e).0)).1 in absurd (omega arith)
    given_one a a' (from_argument h) (from_argument h') u u' e =
        let f = heads e in let g = heads f.1 in let k = heads g.1 in same_edge 2 (
          kind.App,
          h.0,
          h.1,
          refl,
        ) (kind.App, h'.0, h'.1, refl) (λ y. rise y 1) 0 2 false (letters f.0) k.1
    given_one a a' (from_argument {y = y} h) (from_body {z = z} h') u u' e =
        let k = (atoms y z 2 1 (kind.App, h.0, h.1, refl) (
          kind.Lam,
          h'.0,
          h'.1,
          refl,
        ) (letters (heads e).0)).1 in absurd (omega arith)
    given_one a a' (from_body {z = z} h) (from_function {y = y'} h') u u' e =
        let k = (atoms z y' 1 0 (kind.Lam, h.0, h.1, refl) (
          kind.App,
          h'.0,
          h'.1,
          refl,
        ) (letters (heads e).0)).1 in absurd (omega arith)
    given_one a a' (from_body {z = z} h) (to_argument {y = y'} h') u u' e =
        let k = (atoms z y' 1 0 (kind.Lam, h.0, h.1, refl) (
          kind.App,
          h'.0,
          h'.1,
          refl,
        ) (letters (heads e).0)).1 in absurd (omega arith)
    given_one a a' (from_body {z = z} h) (from_argument {y = y'} h') u u' e =
        let k = (atoms z y' 1 2 (kind.Lam, h.0, h.1, refl) (
          kind.App,
          h'.0,
          h'.1,
          refl,
        ) (letters (heads e).0)).1 in absurd (omega arith)
    given_one a a' (from_body h) (from_body h') u u' e =
        let f = heads e in let g = heads f.1 in same_edge 1 (kind.Lam, h.0, h.1, refl) (
          kind.Lam,
          h'.0,
          h'.1,
          refl,
        ) (λ z. rise z 0) 0 1 true (letters f.0) g.1

    same_node : {y y' : A} {a a' : Signs} (c : A → Crossing A) (r t : ℕ) (d : Bool) →
        ◌≡◌ {A = NamedPort A} (slot y t) (slot y' t) → a ≡ a' →
        SamePiece (slot y t) (slot y' t) (c y) (c y') (slot y r) (slot y' r) d d a a'
    same_node c r t d e f =
        let y = (slots_one e).0 in
        record {
          enters = e;
          crossing = ap c y;
          leaves = ap (λ y. slot y r) y;
          side = refl;
          after = f;
        }

    -- and from a port at which one is asked for, the same port and the first sign tell what is crossed
    asked_one : {b b' d d' : Bool} {e e' l l' : NamedPort A} {c c' : Crossing A} {g g' : Signs} (a a' : Signs) →
        Piece b e c l d g → Piece b' e' c' l' d' g' → b ≡ false → b' ≡ false → e ≡ e' → g ++ a ≡ g' ++ a' →
        SamePiece e e' c c' l l' d d' a a'
    asked_one a a' (from_function h) p' u u' q e = absurd (cc)
    asked_one a a' (to_argument h) p' u u' q e = absurd (cc)
    asked_one a a' (from_argument h) p' u u' q e = absurd (cc)
    asked_one a a' (from_body h) p' u u' q e = absurd (cc)
    asked_one a a' p (from_function h) u u' q e = absurd (cc)
    asked_one a a' p (to_argument h) u u' q e = absurd (cc)
    asked_one a a' p (from_argument h) u u' q e = absurd (cc)
    asked_one a a' p (from_body h) u u' q e = absurd (cc)
    asked_one a a' (to_function h) (to_function h') u u' q e = same_node (λ y. rise y 0) 0 1 false q (heads
        (heads e).1).1
    asked_one a a' (to_function h) (to_body h') u u' q e = let f = ap (λ (p : Bool × Sign). p.0)
        (heads e).0 in let g = ap (λ (p : Bool × Sign). p.1) (heads e).0 in absurd (cc)
    asked_one a a' (to_function h) (from_variable h') u u' q e = let f = ap (λ (p : Bool × Sign). p.0)
        (heads e).0 in let g = ap (λ (p : Bool × Sign). p.1) (heads e).0 in absurd (cc)
    asked_one a a' (to_function h) (to_variable h') u u' q e = let f = ap (λ (p : Bool × Sign). p.0)
        (heads e).0 in let g = ap (λ (p : Bool × Sign). p.1) (heads e).0 in absurd (cc)
    asked_one a a' (to_body h) (to_function h') u u' q e = let f = ap (λ (p : Bool × Sign). p.0)
        (heads e).0 in let g = ap (λ (p : Bool × Sign). p.1) (heads e).0 in absurd (cc)
    asked_one a a' (to_body h) (to_body h') u u' q e = same_node (λ y. fall y 0) 1 0 false q (heads (heads e).1).1
    asked_one a a' (to_body h) (from_variable h') u u' q e = let f = ap (λ (p : Bool × Sign). p.0)
        (heads e).0 in let g = ap (λ (p : Bool × Sign). p.1) (heads e).0 in absurd (cc)
    asked_one a a' (to_body h) (to_variable h') u u' q e = let f = ap (λ (p : Bool × Sign). p.0)
        (heads e).0 in let g = ap (λ (p : Bool × Sign). p.1) (heads e).0 in absurd (cc)
    asked_one a a' (from_variable h) (to_function h') u u' q e = let f = ap (λ (p : Bool × Sign). p.0)
        (heads e).0 in let g = ap (λ (p : Bool × Sign). p.1) (heads e).0 in absurd (cc)
    asked_one a a' (from_variable h) (to_body h') u u' q e = let f = ap (λ (p : Bool × Sign). p.0)
        (heads e).0 in let g = ap (λ (p : Bool × Sign). p.1) (heads e).0 in absurd (cc)
    asked_one a a' (from_variable h) (from_variable h') u u' q e = same_node (λ y. rise y 1) 0 2 true q (heads e).1
    asked_one a a' (from_variable h) (to_variable h') u u' q e = let f = ap (λ (p : Bool × Sign). p.0)
        (heads e).0 in let g = ap (λ (p : Bool × Sign). p.1) (heads e).0 in absurd (cc)
    asked_one a a' (to_variable h) (to_function h') u u' q e = let f = ap (λ (p : Bool × Sign). p.0)
        (heads e).0 in let g = ap (λ (p : Bool × Sign). p.1) (heads e).0 in absurd (cc)
    asked_one a a' (to_variable h) (to_body h') u u' q e = let f = ap (λ (p : Bool × Sign). p.0)
        (heads e).0 in let g = ap (λ (p : Bool × Sign). p.1) (heads e).0 in absurd (cc)
    asked_one a a' (to_variable h) (from_variable h') u u' q e = let f = ap (λ (p : Bool × Sign). p.0)
        (heads e).0 in let g = ap (λ (p : Bool × Sign). p.1) (heads e).0 in absurd (cc)
    asked_one a a' (to_variable h) (to_variable h') u u' q e = same_node (λ y. fall y 1) 2 0 true q (heads e).1

    abbrev Claim : Bool → NamedPort A → List (Crossing A) → Signs → Type 0
    Claim b p r a = (b' : Bool) (p' : NamedPort A) (r' : List (Crossing A)) (a' : Signs) → Phase b' p' r' a' →
        b ≡ b' → a ≡ a' → Outcome b p p' r r'

    rest_one : {d d' : Bool} {l l' : NamedPort A} {c c' : Crossing A} {r r' : List (Crossing A)} {a a' : Signs} →
        Claim d l r a → Phase d' l' r' a' → c ≡ c' → l ≡ l' → d ≡ d' → a ≡ a' → IsPlain l → c ∷ r ≡ c' ∷ r'
    rest_one {d} {d'} {l} {l'} {c} {c'} {r} {r'} {a} {a'} f y ec el ed ea plain =
        ap (λ c. c ∷ r) ec ∙ ap (λ r. c' ∷ r) (settled d l l' r r' (f d' l' r' a' y ed ea) el plain)

    -- after a port where a term is asked for
    ends_one : (z : A) {p : NamedPort A} → Is N z kind.Lam → Linked N p (slot z 0) → Claim false p [] []
    ends_one z h l b' p' r' a' (ends z' h' l') e f q = refl
    ends_one z {p} h l b' p' r' a' (share_up {x = x} {s = s} h' l' y) e f q = absurd (no_slots N
        (sym (n.one_link p (slot z 0) (slot x (suc s)) l (subst (λ p. Linked N p (slot x (suc s))) (sym q) l'))))
    ends_one z h l b' p' r' a' (share_down h' l' y) e f q = absurd (cc)
    ends_one z h l b' p' r' a' (piece {a = a} g l' x y) e f q = absurd (no_signs a x f)

    up_one : {x : A} {s : ℕ} {p : NamedPort A} {r : List (Crossing A)} {a : Signs} → IsShared x →
        Linked N p (slot x (suc s)) →
        Claim false (slot x 0) r a → Claim false p (rise x s ∷ r) a
    up_one {x} {s} {p} h l f b' p' r' a' (ends z h' l') e k q = absurd (no_slots N
        (n.one_link p (slot x (suc s)) (slot z 0) l (subst (λ p. Linked N p (slot z 0)) (sym q) l')))
    up_one {x} {s} {p} {r} h l f b' p' r' a' (share_up {x = x'} {s = s'} {r = v} h' l' y) e k q =
        let z = sucs_one (n.one_link p (slot x (suc s)) (slot x' (suc s')) l
        (subst (λ p. Linked N p (slot x' (suc s'))) (sym q) l')) in
        let g = f false (slot x' 0) v a' y refl k (ap (λ x. slot x 0) z.0) in
        ap (λ x. rise x s ∷ r) z.0 ∙ ap (λ s. rise x' s ∷ r) z.1 ∙ ap (λ r. rise x' s' ∷ r) g
    up_one h l f b' p' r' a' (share_down h' l' y) e k q = absurd (cc)
    up_one {x} {s} {p} h l f b' p' r' a' (piece {e = e'} g l' pc y) e k q = absurd (enters_plain pc x (suc s)
        (n.one_link p e' (slot x (suc s)) (subst (λ p. Linked N p e') (sym q) l') l) h)

    piece_asked : {d : Bool} {p e l : NamedPort A} {c : Crossing A} {r : List (Crossing A)} {a : Signs} (g : Signs) →
        Linked N p e → Piece false e c l d g → Claim d l r a → Claim false p (c ∷ r) (g ++ a)
    piece_asked {a = a} g l pc f b' p' r' a' (ends z' h' l') e k q = absurd (no_signs a pc (sym k))
    piece_asked {p = p} {e = e'} g l pc f b' p' r' a' (share_up {x = x} {s = s} h' l' y) e k q = absurd
        (enters_plain pc x (suc s)
        (n.one_link p e' (slot x (suc s)) l (subst (λ p. Linked N p (slot x (suc s))) (sym q) l')) h')
    piece_asked g l pc f b' p' r' a' (share_down h' l' y) e k q = absurd (cc)
    piece_asked {p = p} {e = e1} {a = a} g l pc f b' p' r' a' (piece {e = e2} {a = a2} g2 l' pc' y) e k q =
        let z = asked_one a a2 pc pc' refl (sym e) (n.one_link p e1 e2 l (subst (λ p. Linked N p e2) (sym q) l')) k in
        rest_one f y z.crossing z.leaves z.side z.after (leaves_plain pc)

    -- after a port where one is given
    piece_given : {d : Bool} {p e l : NamedPort A} {c : Crossing A} {r : List (Crossing A)} {a : Signs} (g : Signs) →
        Linked N p e → Piece true e c l d g → Claim d l r a → (b' : Bool) (p' : NamedPort A) (r' : List
        (Crossing A)) (a' : Signs) →
        Phase b' p' r' a' → true ≡ b' → g ++ a ≡ a' → Split p p' (c ∷ r) r'
    piece_given g l pc f b' p' r' a' (ends z' h' l') e k = absurd (cc)
    piece_given g l pc f b' p' r' a' (share_up h' l' y) e k = absurd (cc)
    piece_given g l pc f b' p' r' a' (share_down {x = x} {s = s} {r = v} h' l' y) e k =
        let o = piece_given g l pc f true (slot x (suc s)) v a' y refl k in
        record {
          port = o.port;
          first = o.first;
          second = fall x s ∷ o.second;
          rest = o.rest;
          drop = o.drop;
          other = drops h' l' o.other;
          is = o.is;
          other_is = ap (λ w. fall x s ∷ w) o.other_is;
        }
    piece_given {p = p} {e = e1} {c = c} {r = r} {a = a} g l pc f b' p' r' a'
        (piece {e = e2} {c = c2} {r = r2} {a = a2} g2 l' pc' y) e k =
        let z = given_one a a2 pc pc' refl (sym e) k in
        record {
          port = e1;
          first = [];
          second = [];
          rest = c ∷ r;
          drop = lands l;
          other = lands (subst (Linked N p') (sym z.enters) l');
          is = refl;
          other_is = sym (rest_one f y z.crossing z.leaves z.side z.after (leaves_plain pc));
        }

    down_one : {x : A} {s : ℕ} {p : NamedPort A} {r : List (Crossing A)} {a : Signs} → IsShared x →
        Linked N p (slot x 0) →
        Claim true (slot x (suc s)) r a → Claim true p (fall x s ∷ r) a
    down_one {x} {s} h l f b' p' r' a' y e k =
        let o = f b' p' r' a' y e k in
        record {
          port = o.port;
          first = fall x s ∷ o.first;
          second = o.second;
          rest = o.rest;
          drop = drops h l o.drop;
          other = o.other;
          is = ap (λ w. fall x s ∷ w) o.is;
          other_is = o.other_is;
        }

    of_piece : (b : Bool) {d : Bool} (p : NamedPort A) {e l : NamedPort A} {c : Crossing A} (r : List (Crossing A))
        {a : Signs} (g : Signs) →
        Linked N p e → Piece b e c l d g → Claim d l r a → Claim b p (c ∷ r) (g ++ a)
    of_piece false p r g l pc f = piece_asked g l pc f
    of_piece true p r g l pc f = piece_given g l pc f

    one_phase : {b : Bool} {p : NamedPort A} {r : List (Crossing A)} {a : Signs} → Phase b p r a → Claim b p r a
    one_phase (ends z h l) = ends_one z h l
    one_phase (share_up {x = x} {s = s} h l y) = up_one {x = x} {s = s} h l (one_phase y)
    one_phase (share_down {x = x} {s = s} h l y) = down_one {x = x} {s = s} h l (one_phase y)
    one_phase {b} {p} (piece {r = r} g l pc y) = of_piece b p r g l pc (one_phase y)

    -- so two rows from principal ports of applications to abstractions are one where what is read is alike
    pub rows_told : IsFacing N → (x x' z z' : A) (r r' : List (Crossing A)) (a a' : Signs) → Is N x kind.App →
        Is N x' kind.App → Is N z kind.Lam → Is N z' kind.Lam → Row N (slot x 0) r (slot z 0) →
        Row N (slot x' 0) r' (slot z' 0) → Signed N letter r a → Signed N letter r' a' →
        AreAlike (onward (letter_of (letter x 0)) ∷ a) (onward (letter_of (letter x' 0)) ∷ a') → (x ≡ x') × (r ≡ r')
    rows_told faces x x' z z' r r' a a' h h' k k' R R' s s' same =
        let y = phase_of n faces false z R refl k s (kind.App, h.0, h.1, refl) in
        let y' = phase_of n faces false z' R' refl k' s' (kind.App, h'.0, h'.1, refl) in
        let e = alike_words (onward (letter_of (letter x 0)) ∷ a) (onward (letter_of (letter x' 0)) ∷ a')
        (phase_reduced y (onward (letter_of (letter x 0)) ∷ []) refl (refl, refl, refl, refl))
        (phase_reduced y' (onward (letter_of (letter x' 0)) ∷ []) refl (refl, refl, refl, refl)) same in
        let f = heads e in
        let ex = (atoms x x' 0 0 (kind.App, h.0, h.1, refl) (kind.App, h'.0, h'.1, refl) (letters f.0)).0 in
        let ea = sym (append-nil a) ∙ f.1 ∙ append-nil a' in
        (ex, one_phase y false (slot x' 0) r' a' y' refl ea (ap (λ x. slot x 0) ex))
