-- A walk that crosses no facing pair goes down through different nodes, and then up; and where it
-- leaves or meets a pair later, through different nodes too.
use Rattle.std.proofs.Common.{◌≡◌, ℕ, zero, suc, ◌+◌, ◌*◌, ◌<◌, ◌≤◌, List, [], ◌∷◌, length}
use Rattle.std.proofs.Common.{inl, inr, refl, sym, ap, subst, arith}
use Rattle.ol_law_edges.specs.Edges.{IsIn}
use Rattle.ol_net.specs.declared.parts.Kind.{Kind}
use Rattle.ol_net.specs.Nets.{NamedNet, NamedPort, free, slot, HasNode, Linked, IsNet}
use Rattle.ol_context.specs.Contexts.{Context}
use Rattle.ol_context.specs.Paths.{Crosses, inward, outward, through}
use Rattle.ol_context.specs.Ways.{Way}
use Rattle.ol_context.specs.Short.{live, IsOnce}
use Rattle.ol_demand.specs.Chains.{IsAtNoPair}
use Rattle.ol_demand.proofs.Pairs.{no_auxiliary}
use Rattle.ol_law_completeness.specs.Rows.{Crossing}
use Rattle.ol_law_completeness.specs.Laws.{CrossesNoStuck}
use Rattle.ol_law_completeness.proofs.Goings.{Goes, stops, goes_up, goes_down, IsStop}
use Rattle.ol_law_levels.proofs.Climbs.{few_live, Down, first, next, down_one}

module _ {A : Type 0} (N : NamedNet A) (is_net : IsNet N) where
  abbrev pub IsLive : A → Type 0
  IsLive x = (k : Kind) × (i : ℕ) × HasNode N x k i

  -- ---- upwards

  -- so many nodes, entered by auxiliary slots, from slot 0 of the one to slot 0 of the other
  pub data Ups (x : A) : ℕ → A → Type 0 where
    here : Ups x 0 x
    more : {n : ℕ} {y z : A} (s : ℕ) → Ups x n y → Linked N (slot y 0) (slot z (suc s)) →
        Ups x (suc n) z

  -- a walk goes on so
  record Rest (E : NamedPort A → Type 0) (z : A) (n m : ℕ) : Type 0 where
    context : Context
    row : List (Crossing A)
    walk : Goes N E (slot z 0) context row
    long : length row + n ≡ m

  one_up : {E : NamedPort A → Type 0} → IsStop N E → {y z : A} (s : ℕ) {c : Context}
      {w : List (Crossing A)} → Linked N (slot y 0) (slot z (suc s)) →
      Goes N E (slot y 0) c w → Rest E z 1 (length w)
  one_up stop {y = y} {z = z} s l (stops e) =
      absurd (stop (slot y 0) e z (suc s) l
      (no_auxiliary N is_net (slot y 0) z (suc s) (λ e. absurd (omega arith)) l))
  one_up {E} stop {y = y} {z = z} s l (goes_up {d = d} {x = x} {w = w} k i s' l' h b e r) =
      let q : slot x (suc s') ≡ slot z (suc s) =
      is_net.one_link (slot y 0) (slot x (suc s')) (slot z (suc s)) l' l in
      let v : x ≡ z = cc in
      subst (λ x. Rest E x 1 (suc (length w))) v (record {
        context = d;
        row = w;
        walk = r;
        long = omega arith;
      })
  one_up stop {y = y} {z = z} s l (goes_down {x = x} k i s' l' h b e r) =
      let q : slot x 0 ≡ slot z (suc s) =
      is_net.one_link (slot y 0) (slot x 0) (slot z (suc s)) l' l in
      let v : 0 ≡ suc s = cc in absurd (omega arith)

  ups_rest : {E : NamedPort A → Type 0} → IsStop N E → {x z : A} {n : ℕ} → Ups x n z →
      {c : Context} {w : List (Crossing A)} → Goes N E (slot x 0) c w → Rest E z n (length w)
  ups_rest stop here {c} {w} r =
      record { context = c; row = w; walk = r; long = omega arith }
  ups_rest stop (more s u l) r =
      let t = ups_rest stop u r in
      let o = one_up stop s l t.walk in
      record {
        context = o.context;
        row = o.row;
        walk = o.walk;
        long = (let a = t.long in let b = o.long in omega arith);
      }

  -- no walk leads away from a ring
  no_ring : {E : NamedPort A → Type 0} → IsStop N E → (m : ℕ) {x : A} {n : ℕ} →
      Ups x (suc n) x → {c : Context} {w : List (Crossing A)} → Goes N E (slot x 0) c w →
      length w ≤ m → ⊥
  no_ring stop zero u r b = let t = ups_rest stop u r in let a = t.long in absurd (omega arith)
  no_ring stop (suc m) u r b = let t = ups_rest stop u r in let a = t.long in
      no_ring stop m u t.walk (omega arith)

  module _ (p : ℕ) where
    -- ---- downwards

    pub record Earlier (n : ℕ) (z : A) : Type 0 where
      pub at : ℕ
      pub less : at < n
      pub down : Down N is_net p at z

    -- so many nodes were entered, by slot 0 alone
    pub record Falling (n : ℕ) (u : NamedPort A) : Type 0 where
      pub down : List A
      pub long : length down ≡ n
      pub once : IsOnce down
      pub lives : (z : A) → IsIn z down → IsLive z
      pub earlier : (z : A) → IsIn z down → Earlier n z
      pub onward : (y : A) → Linked N u (slot y 0) → Down N is_net p n y

    pub record To (z y : A) : Type 0 where
      pub many : ℕ
      pub ups : Ups z many y

    -- and then by auxiliary slots alone
    pub record Rising (n : ℕ) (u : NamedPort A) : Type 0 where
      pub down : List A
      pub up : List A
      pub long : length down + length up ≡ n
      pub once_down : IsOnce down
      pub once_up : IsOnce up
      pub lives_down : (z : A) → IsIn z down → IsLive z
      pub lives_up : (z : A) → IsIn z up → IsLive z
      pub node : A
      pub at : u ≡ slot node 0
      pub to : (z : A) → IsIn z up → To z node

    pub data Phase (n : ℕ) (u : NamedPort A) : Type 0 where
      falling : Falling n u → Phase n u
      rising : Rising n u → Phase n u

    pub begins_falling : Falling 0 (free p)
    begins_falling = record {
      down = [];
      long = refl;
      once = tt;
      lives = λ z k. absurd k;
      earlier = λ z k. absurd k;
      onward = λ y l. first l;
    }

    pub begins : Phase 0 (free p)
    begins = falling begins_falling

    pub fall_on : (n : ℕ) (u : NamedPort A) (x : A) (t : ℕ) → IsLive x → Linked N u (slot x 0) →
        Falling n u → Falling (suc n) (slot x (suc t))
    fall_on n u x t h l f = record {
      down = x ∷ f.down;
      long = ap suc f.long;
      once = (fresh, f.once);
      lives = lives;
      earlier = earlier;
      onward = λ y l'. next t (f.onward x l) l';
    }
      where
        fresh : IsIn x f.down → ⊥
        fresh k = let e = f.earlier x k in let b = e.less in
            let q = down_one N is_net p e.down (f.onward x l) refl in omega arith

        lives : (z : A) → IsIn z (x ∷ f.down) → IsLive z
        lives z (inl e) = subst IsLive (sym e) h
        lives z (inr k) = f.lives z k

        earlier : (z : A) → IsIn z (x ∷ f.down) → Earlier (suc n) z
        earlier z (inl e) =
            subst (λ z. Earlier (suc n) z) (sym e) (record {
              at = n;
              less = omega arith;
              down = f.onward x l;
            })
        earlier z (inr k) = let e = f.earlier z k in let b = e.less in
            record { at = e.at; less = omega arith; down = e.down }

    rise_first : (n : ℕ) (u : NamedPort A) (x : A) → IsLive x → Falling n u →
        Rising (suc n) (slot x 0)
    rise_first n u x h f = record {
      down = f.down;
      up = x ∷ [];
      long = let a = f.long in omega arith;
      once_down = f.once;
      once_up = ((λ k. k), tt);
      lives_down = f.lives;
      lives_up = lives;
      node = x;
      at = refl;
      to = to;
    }
      where
        lives : (z : A) → IsIn z (x ∷ []) → IsLive z
        lives z (inl e) = subst IsLive (sym e) h
        lives z (inr k) = absurd k

        to : (z : A) → IsIn z (x ∷ []) → To z x
        to z (inl e) = subst (λ z. To z x) (sym e) (record { many = 0; ups = here })
        to z (inr k) = absurd k

    rise_on : {E : NamedPort A → Type 0} → IsStop N E → (n : ℕ) (u : NamedPort A) (x : A) (s : ℕ) →
        IsLive x → Linked N u (slot x (suc s)) → {c : Context} {w : List (Crossing A)} →
        Goes N E (slot x 0) c w → Rising n u → Rising (suc n) (slot x 0)
    rise_on stop n u x s h l {w = w} r f = record {
      down = f.down;
      up = x ∷ f.up;
      long = let a = f.long in omega arith;
      once_down = f.once_down;
      once_up = (fresh, f.once_up);
      lives_down = f.lives_down;
      lives_up = lives;
      node = x;
      at = refl;
      to = to;
    }
      where
        link : Linked N (slot f.node 0) (slot x (suc s))
        link = subst (λ u. Linked N u (slot x (suc s))) f.at l

        fresh : IsIn x f.up → ⊥
        fresh k = let t = f.to x k in no_ring stop (length w) (more s t.ups link) r (omega arith)

        lives : (z : A) → IsIn z (x ∷ f.up) → IsLive z
        lives z (inl e) = subst IsLive (sym e) h
        lives z (inr k) = f.lives_up z k

        to : (z : A) → IsIn z (x ∷ f.up) → To z x
        to z (inl e) = subst (λ z. To z x) (sym e) (record { many = 0; ups = here })
        to z (inr k) = let t = f.to z k in record { many = suc t.many; ups = more s t.ups link }

    -- ---- and so on along a path

    module _ (none : CrossesNoStuck N) (c0 : Context) where
      pub stuck : (n : ℕ) (u : NamedPort A) {d e : Context} (x : A) (k : Kind) (i t : ℕ) →
          Way N (free p) c0 n u d → IsAtNoPair N u → Linked N u (slot x 0) → HasNode N x k i →
          Crosses k i 0 d t e → (y : A) → u ≡ slot y 0 → ⊥
      stuck n u {d = d} {e = e} x k i t w a l h z y q =
          none p c0 d e n x y (slot x t) (subst (λ u. Way N (free p) c0 n u d) q w)
          (subst (λ u. Linked N u (slot x 0)) q l) (through h z) (subst (IsAtNoPair N) q a)

      pub extend : {E : NamedPort A → Type 0} → IsStop N E → (n : ℕ) (u : NamedPort A)
          {d e : Context} {x : A} {k : Kind} {i s t : ℕ} {w : List (Crossing A)} →
          Phase n u → Way N (free p) c0 n u d → IsAtNoPair N u → Linked N u (slot x s) →
          HasNode N x k i → Crosses k i s d t e → Goes N E (slot x t) e w →
          Phase (suc n) (slot x t)
      extend stop n u {x = x} {k = k} {i = i} (falling f) w a l h (inward b z) r =
          rising (rise_first n u x (k, i, h) f)
      extend stop n u {x = x} {k = k} {i = i} (falling f) w a l h (outward {s = t} b z) r =
          falling (fall_on n u x t (k, i, h) l f)
      extend stop n u {x = x} {k = k} {i = i} (rising f) w a l h (inward {s = s} b z) r =
          rising (rise_on stop n u x s (k, i, h) l r f)
      extend stop n u {x = x} {k = k} {i = i} (rising f) w a l h (outward {s = t} b z) r =
          absurd (stuck n u x k i (suc t) w a l h (outward {s = t} b z) f.node f.at)

    pub few_falling : (n : ℕ) (u : NamedPort A) → Falling n u → n ≤ live N
    few_falling n u f = let a = few_live N is_net f.down f.once f.lives in let b = f.long in omega arith

    pub few_crossed : (n : ℕ) (u : NamedPort A) → Phase n u → n ≤ 2 * live N
    few_crossed n u (falling f) = let a = few_falling n u f in omega arith
    few_crossed n u (rising f) = let a = few_live N is_net f.down f.once_down f.lives_down in
        let b = few_live N is_net f.up f.once_up f.lives_up in let c = f.long in omega arith
