-- Where the walk of a term's net stands between two jumps; and how it falls along the wire of a variable to
-- an occurrence.
-- Used in Onward, Nodes, Bounding and Circling.
use Rattle.std.proofs.Common.{◌≡◌, ℕ, zero, suc, ◌+◌, ◌<◌, length, Bool, true, false, [], ◌∷◌, nat_eq}
use Rattle.std.proofs.Common.{Option, None, Some, refl, sym, ap, ◌∙◌, subst, arith}
use Rattle.std.proofs.lemmas.Bool.{and_parts, eqb-true}
use Rattle.ol_context.specs.Contexts.{Level, empty, o, star, pair, Context, cons, tail, change}
use Rattle.ol_context.proofs.Contexts.{eta, head_eq, tail_eq}
use Rattle.ol_net.specs.declared.parts.Kind.TheVariants as kind
use Rattle.ol_net.specs.declared.parts.Port.{Port}
use Rattle.ol_net.specs.Nets.{NamedNet, NamedPort, HasNode, Linked, IsNet}
use Rattle.ol_net.specs.Nets as nets
use Rattle.ol_net.specs.Numbered.{numbered_port}
use Rattle.ol_law_meaning.proofs.Bare.{packed_right, bare_right, is_wire, has_box}
use Rattle.ol_law_meaning.proofs.Down.{eta2, occurs_there, occurs_not, wire_under}
use Rattle.ol_law_meaning.proofs.Fans.{Merges, wire_here}
use Rattle.ol_law_meaning.proofs.Parts.{Has, argument, has_lam, Wires, has_app, has_app_to, has_head, bare_occurs}
use Rattle.ol_law_meaning.proofs.Parts.{bare_lacks, key, IsInside, inside_under}
use Rattle.ol_law_meaning.proofs.States.{Before, before_arg, H, L, if_true, if_false}
use Rattle.ol_law_meaning.specs.Sites.{Site, self, spot_in}
use Rattle.ol_law_meaning.specs.Spots.{Wire, bound, name, under, occurs, left, IsRight, root, wire, Spot, at, body, fun}
use Rattle.ol_law_meaning.specs.Spots.{arg}
use Rattle.ol_term.specs.Trees.{Tree, var, free, lam, app, is_below}
use Rattle.ol_term.specs.declared.translations.Translation.{Translation}
use Rattle.ol_term.specs.declared.translations.Translation.TheVariants.{One, Two}
use Rattle.ol_translate.proofs.Joints.{few_wires}
use Rattle.ol_translate.specs.Translation.{Subnet, subnet_of, applied, bare_variable, wire_of, slot_port}
use Rattle.ol_law_completeness.proofs.Crossings.{Till, comes, mapped, moved, sooner, goes_down}
use Rattle.ol_law_completeness.proofs.Jumps.{Reached, at_var, at_name, by_lam, by_fun, by_arg}

-- ---- where the walk stands

-- at the root of an argument that is a wire, which is slot 2 of application k
abbrev pub bare_stand : NamedNet ℕ → Spot → Bool → ℕ → (Context → Context) → NamedPort ℕ → Context → Type 0
bare_stand N (at root v c) true k F p x = (p ≡ nets.slot k 2) × (x ≡ F (cons v c))
bare_stand N (at root v c) false k F p x = Linked N p (nets.slot k 2) × (x ≡ F (cons v c))
bare_stand N (at (wire y) v c) e k F p x = ⊥
bare_stand N (body s) e k F p x = ⊥
bare_stand N (fun s) e k F p x = ⊥
bare_stand N (arg v s) e k F p x = ⊥

abbrev pub if_bare : Option ℕ → Type 0 → Type 0 → Type 0
if_bare None own bare = own
if_bare (Some x) own bare = bare

-- At the spot, which is the root of a part, the walk has left a node by port p. With true it comes to the
-- part next; with false it leaves it.
abbrev pub Stand : NamedNet ℕ → Translation → Spot → Tree → Bool → (d n k : ℕ) → (Context → Context) →
    NamedPort ℕ → Context → Type 0
Stand N τ (at root v c) t true d n k F p x = Linked N p (numbered_port (subnet_of τ t d n k).root) × (x ≡ F (cons v c))
Stand N τ (at root v c) t false d n k F p x = (p ≡ numbered_port (subnet_of τ t d n k).root) × (x ≡ F (cons v c))
Stand N τ (at (wire y) v c) t e d n k F p x = ⊥
Stand N τ (body s) (lam M) e d n k F p x = Stand N τ s M e (d + 1) n (k + 1) F p x
Stand N τ (body s) (var y) e d n k F p x = ⊥
Stand N τ (body s) (free f) e d n k F p x = ⊥
Stand N τ (body s) (app M Q) e d n k F p x = ⊥
Stand N τ (fun s) (app M Q) e d n k F p x = Stand N τ s M e d n (k + 1) F p x
Stand N τ (fun s) (var y) e d n k F p x = ⊥
Stand N τ (fun s) (free f) e d n k F p x = ⊥
Stand N τ (fun s) (lam M) e d n k F p x = ⊥
Stand N τ (arg v s) (app M Q) e d n k F p x =
    if_bare (bare_variable τ d Q)
    (Stand N τ s Q e d (n + 1) (k + 1 + length (subnet_of τ M d n (k + 1)).nodes) (λ c. F (cons v c)) p x)
    (bare_stand N s e k (λ c. F (cons v c)) p x)
Stand N τ (arg v s) (var y) e d n k F p x = ⊥
Stand N τ (arg v s) (free f) e d n k F p x = ⊥
Stand N τ (arg v s) (lam M) e d n k F p x = ⊥

-- more crossings than one jump takes
abbrev pub room : Tree → ℕ
room (var y) = 2
room (free f) = 2
room (lam M) = suc (suc (room M))
room (app M Q) = suc (suc (suc (room M + room Q)))

reached_var : (τ : Translation) (v : ℕ) (y : Wire) → occurs y (var v) ≡ true → Reached τ (var v) y empty self
reached_var τ v (bound y) e = subst (λ y. Reached τ (var v) (bound y) empty self) (eqb-true v y e) at_var
reached_var τ v (name f) e = absurd (cc)

reached_name : (τ : Translation) (g : ℕ) (y : Wire) → occurs y (free g) ≡ true → Reached τ (free g) y empty self
reached_name τ g (name f) e = subst (λ f. Reached τ (free g) (name f) empty self) (eqb-true g f e) at_name
reached_name τ g (bound y) e = absurd (cc)

-- an argument that is a wire is its own occurrence
pub bare_reached : (τ : Translation) (d x : ℕ) (Q : Tree) (y : Wire) → bare_variable τ d Q ≡ Some x →
    occurs y Q ≡ true → Reached τ Q y empty self
bare_reached One d x Q y e h = absurd (cc)
bare_reached Two d x (var v) y e h = reached_var Two v y h
bare_reached Two d x (free f) y e h = reached_name Two f y h
bare_reached Two d x (lam M) y e h = absurd (cc)
bare_reached Two d x (app M N) y e h = absurd (cc)

-- of a term that is a variable or a name, there is one wire
one_key : (u v : ℕ) (q p : Port) → wire_of v ((u, q) ∷ []) ≡ Some p → q ≡ p
one_key u v q p e = elim (nat_eq u v) as (λ b. nat_eq u v ≡ b → q ≡ p) [
  | true ↦ (λ t. let r : ◌≡◌ {A = Option Port} (Some q) (Some p) = sym (wire_here v (u, q) [] t) ∙ e in cc)
  | false ↦ (λ t. let r : ◌≡◌ {A = Option Port} None (Some p) = rw t at e in absurd (cc))
] refl

-- ---- falling

-- The walk has come to the occurrence to which the wire leads with level 0 and later levels a and c.
pub data Found (N : NamedNet ℕ) (τ : Translation) (t : Tree) (y : Wire) (a : Level) (c : Context) (d n k : ℕ)
    (F : Context → Context) (p : NamedPort ℕ) (x : Context) : Type 0 where
  found : {s : Site} {v : Level} {e : Context} → Reached τ t y a s → c ≡ cons v e →
      Stand N τ (spot_in s (at root v e)) t false d n k F p x → Found N τ t y a c d n k F p x

module _ (τ : Translation) {N : NamedNet ℕ} (net : IsNet N) where
  abbrev pub Fallen : Tree → Wire → Level → Context → (d n k : ℕ) → (Context → Context) → NamedPort ℕ → Context → Type 0
  Fallen t y a c d n k F = Found N τ t y a c d n k F

  -- from the croissant of a variable or a name
  at_head : (t : Tree) (d n k : ℕ) (F : Context → Context) (y : Wire) (a : Level) (c : Context) → Before n F →
      HasNode N k kind.Croissant n → Reached τ t y empty self →
      numbered_port (subnet_of τ t d n k).root ≡ nets.slot k 1 →
      {p : NamedPort ℕ} → Linked N p (nets.slot k 0) → Till N (Fallen t y a c d n k F) 2 p (F (cons a c))
  at_head t d n k F y a c b h r q l =
      sooner (omega arith) (goes_down net {m = 0} k kind.Croissant refl n F (cons a c) l b h go)
    where
      go : (s : ℕ) (e : Context) → s < 1 → cons empty e ≡ cons a c →
          Till N (Fallen t y a c d n k F) 0 (nets.slot k (suc s)) (F e)
      go zero e low g =
          let f : empty ≡ a = head_eq empty a e c g in
          let f' : e ≡ c = tail_eq empty a e c g in
          comes (found {v = e 0} {e = tail e} (subst (λ a. Reached τ t y a self) f r) (sym f' ∙ sym (eta e))
          (sym q, ap F (sym (eta e))))
      go (suc s) e low g = absurd (omega (arith, low))

  module _ (M Q : Tree) (d n k : ℕ) (F : Context → Context) (b : Before n F)
      (i : is_below d (app M Q) ≡ true) (h : Has (H N) (L N) k (subnet_of τ (app M Q) d n k))
      (y : Wire) (inside : IsInside d y) where
    abbrev P : Subnet
    P = subnet_of τ M d n (k + 1)

    abbrev R : Subnet
    R = argument τ M Q d n k

    abbrev j : ℕ
    j = k + 1 + length (subnet_of τ M d n (k + 1)).nodes

    I : (is_below d M ≡ true) × (is_below d Q ≡ true)
    I = and_parts (is_below d M) (is_below d Q) i

    abbrev Goal : Level → Context → NamedPort ℕ → Context → Type 0
    Goal a c = Fallen (app M Q) y a c d n k F

    abbrev OfM : Type 0
    OfM = (a : Port) → wire_of (key d y) P.wires ≡ Some a → (v : Level) (c : Context) (p : NamedPort ℕ) →
        Linked N p (numbered_port a) → Till N (Fallen M y v c d n (k + 1) F) (room M) p (F (cons v c))

    abbrev OfQ : Type 0
    OfQ = bare_variable τ d Q ≡ None → (v : Level) (q : Port) → wire_of (key d y) R.wires ≡ Some q →
        (w : Level) (c : Context) (p : NamedPort ℕ) → Linked N p (numbered_port q) →
        Till N (Fallen Q y w c d (n + 1) j (λ c. F (cons v c))) (room Q) p (F (cons v (cons w c)))

    left_found : (a w : Level) (c c' : Context) → w ≡ left Q y a → c ≡ c' → (p : NamedPort ℕ) (x : Context) →
        Fallen M y a c d n (k + 1) F p x → Goal w c' p x
    left_found a w c c' e e' p x (found r g s) = found (by_fun r e) (sym e' ∙ g) s

    right_found : bare_variable τ d Q ≡ None → (v a w : Level) (c c' : Context) → IsRight τ M Q y a v w → c ≡ c' →
        (p : NamedPort ℕ) (x : Context) → Fallen Q y a c d (n + 1) j (λ c. F (cons v c)) p x → Goal w c' p x
    right_found none v a w c c' f e' p x (found {s = s} {v = u} {e = e} r g st) =
        found (by_arg r f) (sym e' ∙ g)
        (subst (λ o. if_bare o (Stand N τ (spot_in s (at root u e)) Q false d (n + 1) j (λ c. F (cons v c)) p x)
        (bare_stand N (spot_in s (at root u e)) false k (λ c. F (cons v c)) p x)) (sym none) st)

    -- to the function, with level 0 e 0
    to_left : OfM → (a : Port) → wire_of (key d y) P.wires ≡ Some a → (e : Context) (w : Level) (c : Context) →
        w ≡ left Q y (e 0) → tail e ≡ c → {p : NamedPort ℕ} → Linked N p (numbered_port a) →
        Till N (Goal w c) (room M) p (F e)
    to_left ih a ea e w c f g {p} l =
        moved refl (ap F (sym (eta e))) (mapped (left_found (e 0) w (tail e) c f g) (ih a ea (e 0) (tail e) p l))

    -- through a bracket, which has its context e from the wire
    by_bracket : bare_variable τ d Q ≡ None → OfQ → (x : ℕ) (q : Port) → wire_of (key d y) R.wires ≡ Some q →
        HasNode N x kind.Bracket n → L N (slot_port x 1) q → (e : Context) (w : Level) (c : Context) →
        ((a v : Level) → pair a v ≡ e 0 → IsRight τ M Q y a v w) → tail e ≡ c →
        {p : NamedPort ℕ} → Linked N p (nets.slot x 0) → Till N (Goal w c) (suc (room Q)) p (F e)
    by_bracket none ih x q eq hb lb e w c f g l =
        goes_down net {m = (room Q)} x kind.Bracket refl n F e l b hb go
      where
        go : (s : ℕ) (e' : Context) → s < 1 → cons (pair (e' 1) (e' 0)) (tail (tail e')) ≡ e →
            Till N (Goal w c) (room Q) (nets.slot x (suc s)) (F e')
        go zero e' low g' =
            let f' : pair (e' 1) (e' 0) ≡ e 0 = ap (λ (x : Context). x 0) g' in
            let k' : tail (tail e') ≡ tail e = ap (λ (x : Context). tail x) g' in
            moved refl (ap F (sym (eta2 e')))
            (mapped (right_found none (e' 0) (e' 1) w (tail (tail e')) c (f (e' 1) (e' 0) f') (k' ∙ g))
            (ih none (e' 0) q eq (e' 1) (tail (tail e')) (nets.slot x 1) lb))
        go (suc s) e' low g' = absurd (omega (arith, low))

    fall_app : OfM → OfQ → bare_variable τ d Q ≡ None → (a q : Option Port) (r : Port) →
        wire_of (key d y) P.wires ≡ a → wire_of (key d y) R.wires ≡ q → Wires (H N) (L N) n a q (Some r) →
        (w : Level) (c : Context) {p : NamedPort ℕ} → Linked N p (numbered_port r) →
        Till N (Goal w c) (room (app M Q)) p (F (cons w c))
    fall_app ihm ihq none None None r ea eq x w c l = let clash : ◌≡◌ {A = Option Port} (Some r) None = x in absurd (cc)
    fall_app ihm ihq none (Some a) None r ea eq x w c {p} l =
        let same : r ≡ a = cc in
        let n' = occurs_not τ Q y d (n + 1) j I.1 inside eq in
        sooner (omega arith) (to_left ihm a ea (cons w c) w c (sym (if_false N (occurs y Q) (o w) w n')) refl
        (subst (λ r. Linked N p (numbered_port r)) same l))
    fall_app ihm ihq none None (Some q) r ea eq (x, ex, hb, lb) w c {p} l =
        let same : slot_port x 0 ≡ r = cc in
        let n' = occurs_not τ M y d n (k + 1) I.0 inside ea in
        sooner (omega arith) (by_bracket none ihq x q eq hb lb (cons w c) w c
        (λ a v f. packed_right M y a v (has_box τ d Q none) (sym f ∙ sym (if_false N (occurs y M) (star (pair a v)) (pair a v) n')))
        refl (subst (λ r. Linked N p (numbered_port r)) (sym same) l))
    fall_app ihm ihq none (Some a) (Some q) r ea eq (x, z, ez, hb, lb, hf, lf, lg) w c {p} l =
        let same : slot_port z 0 ≡ r = cc in
        let o' = occurs_there τ Q y d (n + 1) j q I.1 inside eq in
        let m' = occurs_there τ M y d n (k + 1) a I.0 inside ea in
        sooner (omega arith) (goes_down net {m = (suc (room M + room Q))} z kind.Fan refl n F (cons w c) (subst (λ r. Linked N p (numbered_port r)) (sym same) l) b hf (go o' m'))
      where
        go : occurs y Q ≡ true → occurs y M ≡ true → (s : ℕ) (e : Context) → s < 2 → change kind.Fan s e ≡ cons w c →
            Till N (Goal w c) (suc (room M + room Q)) (nets.slot z (suc s)) (F e)
        go o' m' zero e low g =
            let f : o (e 0) ≡ w = head_eq (o (e 0)) w (tail e) c g in
            let f' : tail e ≡ c = tail_eq (o (e 0)) w (tail e) c g in
            sooner (omega arith) (to_left ihm a ea e w c (sym f ∙ sym (if_true N (occurs y Q) (o (e 0)) (e 0) o')) f' lf)
        go o' m' (suc zero) e low g =
            let f : star (e 0) ≡ w = head_eq (star (e 0)) w (tail e) c g in
            let f' : tail e ≡ c = tail_eq (star (e 0)) w (tail e) c g in
            sooner (omega arith) (by_bracket none ihq x q eq hb lb e w c
            (λ a v k. packed_right M y a v (has_box τ d Q none) (sym f ∙ ap star (sym k)
            ∙ sym (if_true N (occurs y M) (star (pair a v)) (pair a v) m'))) f' lg)
        go o' m' (suc (suc s)) e low g = absurd (omega (arith, low))

    -- at the wire of an argument that is one
    at_bare : (x : ℕ) → bare_variable τ d Q ≡ Some x → occurs y Q ≡ true → (e : Context) (w : Level) (c : Context) →
        IsRight τ M Q y empty (e 0) w → tail e ≡ c → {p : NamedPort ℕ} → Linked N p (nets.slot k 2) →
        {m : ℕ} → Till N (Goal w c) m p (F e)
    at_bare x bare o' e w c f g {p} l =
        comes (found {v = e 1} {e = tail (tail e)} (by_arg (bare_reached τ d x Q y bare o') f) (sym g ∙ sym (eta (tail e)))
        (subst (λ o. if_bare o (Stand N τ (at root (e 1) (tail (tail e))) Q false d (n + 1) j (λ c. F (cons (e 0) c)) p (F e))
        (bare_stand N (at root (e 1) (tail (tail e))) false k (λ c. F (cons (e 0) c)) p (F e))) (sym bare)
        (l, ap F (sym (eta2 e)))))

    fall_bare : OfM → (x : ℕ) → bare_variable τ d Q ≡ Some x → (a q : Option Port) (r : Port) →
        wire_of (key d y) P.wires ≡ a → wire_of (key d y) ((x, slot_port k 2) ∷ []) ≡ q → Merges (H N) (L N) n a q (Some r) →
        (w : Level) (c : Context) {p : NamedPort ℕ} → Linked N p (numbered_port r) →
        Till N (Goal w c) (room (app M Q)) p (F (cons w c))
    fall_bare ihm x bare None None r ea eq g w c l = let clash : ◌≡◌ {A = Option Port} (Some r) None = g in absurd (cc)
    fall_bare ihm x bare (Some a) None r ea eq g w c {p} l =
        let same : r ≡ a = cc in
        let n' = bare_lacks τ d x Q y (slot_port k 2) bare I.1 inside eq in
        sooner (omega arith) (to_left ihm a ea (cons w c) w c (sym (if_false N (occurs y Q) (o w) w n')) refl
        (subst (λ r. Linked N p (numbered_port r)) same l))
    fall_bare ihm x bare None (Some q) r ea eq g w c {p} l =
        let f = bare_occurs τ d x Q y (slot_port k 2) q bare I.1 inside eq in
        let n' = occurs_not τ M y d n (k + 1) I.0 inside ea in
        let same : r ≡ q = cc in
        at_bare x bare f.0 (cons w c) w c
        (bare_right M y w (is_wire τ d x Q bare) (sym (if_false N (occurs y M) (star w) w n'))) refl
        (subst (λ r. Linked N p (numbered_port r)) (same ∙ f.1) l)
    fall_bare ihm x bare (Some a) (Some q) r ea eq (z, ez, hf, lf, lg) w c {p} l =
        let same : slot_port z 0 ≡ r = cc in
        let f = bare_occurs τ d x Q y (slot_port k 2) q bare I.1 inside eq in
        let m' = occurs_there τ M y d n (k + 1) a I.0 inside ea in
        sooner (omega arith) (goes_down net {m = (suc (room M + room Q))} z kind.Fan refl n F (cons w c) (subst (λ r. Linked N p (numbered_port r)) (sym same) l) b hf (go f.0 m' (subst (λ q. L N (slot_port z 2) q) f.1 lg)))
      where
        go : occurs y Q ≡ true → occurs y M ≡ true → L N (slot_port z 2) (slot_port k 2) →
            (s : ℕ) (e : Context) → s < 2 → change kind.Fan s e ≡ cons w c →
            Till N (Goal w c) (suc (room M + room Q)) (nets.slot z (suc s)) (F e)
        go o' m' l zero e low g =
            let f : o (e 0) ≡ w = head_eq (o (e 0)) w (tail e) c g in
            let f' : tail e ≡ c = tail_eq (o (e 0)) w (tail e) c g in
            sooner (omega arith) (to_left ihm a ea e w c (sym f ∙ sym (if_true N (occurs y Q) (o (e 0)) (e 0) o')) f' lf)
        go o' m' l (suc zero) e low g =
            let f : star (e 0) ≡ w = head_eq (star (e 0)) w (tail e) c g in
            let f' : tail e ≡ c = tail_eq (star (e 0)) w (tail e) c g in
            at_bare x bare o' e w c (bare_right M y (e 0) (is_wire τ d x Q bare)
            (sym f ∙ sym (if_true N (occurs y M) (star (e 0)) (e 0) m'))) f' l
        go o' m' l (suc (suc s)) e low g = absurd (omega (arith, low))

    fall_both : OfM → OfQ → (x : Option ℕ) → bare_variable τ d Q ≡ x → (r : Port) →
        wire_of (key d y) (applied n k x P R).wires ≡ Some r → (w : Level) (c : Context) {p : NamedPort ℕ} →
        Linked N p (numbered_port r) → Till N (Goal w c) (room (app M Q)) p (F (cons w c))
    fall_both ihm ihq None none r e =
        let A = has_app (H N) (L N) n k P R (subst (λ o. Has (H N) (L N) k (applied n k o P R)) none h) in
        fall_app ihm ihq none (wire_of (key d y) P.wires) (wire_of (key d y) R.wires) r refl refl
        (subst (λ r. Wires (H N) (L N) n (wire_of (key d y) P.wires) (wire_of (key d y) R.wires) r) e
        (A.wires (key d y) (few_wires τ (key d y) Q d (n + 1) (k + 1 + length P.nodes))))
    fall_both ihm ihq (Some x) bare r e =
        let A = has_app_to (H N) (L N) n k x P (subst (λ o. Has (H N) (L N) k (applied n k o P R)) bare h) in
        fall_bare ihm x bare (wire_of (key d y) P.wires) (wire_of (key d y) ((x, slot_port k 2) ∷ [])) r refl refl
        (subst (λ r. Merges (H N) (L N) n (wire_of (key d y) P.wires)
        (wire_of (key d y) ((x, slot_port k 2) ∷ [])) r) e (A.wires (key d y)))

  lam_found : (M : Tree) (y : Wire) (a : Level) (c : Context) (d n k : ℕ) (F : Context → Context) (p : NamedPort ℕ)
      (x : Context) → Fallen M (under y) a c (d + 1) n (k + 1) F p x → Fallen (lam M) y a c d n k F p x
  lam_found M y a c d n k F p x (found r g s) = found (by_lam r) g s

  pub falls : (t : Tree) (d n k : ℕ) (F : Context → Context) → Before n F → is_below d t ≡ true →
      Has (H N) (L N) k (subnet_of τ t d n k) → (y : Wire) → IsInside d y → (q : Port) →
      wire_of (key d y) (subnet_of τ t d n k).wires ≡ Some q → (a : Level) (c : Context) {p : NamedPort ℕ} →
      Linked N p (numbered_port q) → Till N (Fallen t y a c d n k F) (room t) p (F (cons a c))
  falls (var v) d n k F b i h y inside q e a c {p} l =
      at_head (var v) d n k F y a c b h.nodes.0
      (reached_var τ v y (occurs_there τ (var v) y d n k q i inside e)) refl
      (subst (λ q. Linked N p (numbered_port q)) (sym (one_key v (key d y) (slot_port k 0) q e)) l)
  falls (free f) d n k F b i h y inside q e a c {p} l =
      at_head (free f) d n k F y a c b h.nodes.0
      (reached_name τ f y (occurs_there τ (free f) y d n k q i inside e)) refl
      (subst (λ q. Linked N p (numbered_port q)) (sym (one_key (d + f) (key d y) (slot_port k 0) q e)) l)
  falls (lam M) d n k F b i h y inside q e a c l =
      let A = has_lam (H N) (L N) n k (subnet_of τ M (d + 1) n (k + 1)) h in
      sooner (omega arith) (mapped (lam_found M y a c d n k F)
      (falls M (d + 1) n (k + 1) F b i A.part (under y) (inside_under d y inside) q (sym (wire_under τ M y d n k) ∙ e) a c l))
  falls (app M Q) d n k F b i h y inside q e a c l =
      fall_both M Q d n k F b i h y inside
      (λ r er v c p l. falls M d n (k + 1) F b (and_parts (is_below d M) (is_below d Q) i).0
      (has_head (H N) (L N) n k (bare_variable τ d Q) (subnet_of τ M d n (k + 1)) (argument τ M Q d n k) h).function
      y inside r er v c l)
      (λ none v r er w c p l. falls Q d (n + 1) (k + 1 + length (subnet_of τ M d n (k + 1)).nodes) (λ c. F (cons v c))
      (before_arg n F v b) (and_parts (is_below d M) (is_below d Q) i).1
      (has_app (H N) (L N) n k (subnet_of τ M d n (k + 1)) (argument τ M Q d n k)
      (subst (λ o. Has (H N) (L N) k (applied n k o (subnet_of τ M d n (k + 1)) (argument τ M Q d n k))) none h)).argument
      y inside r er w c l)
      (bare_variable τ d Q) refl q e a c l
