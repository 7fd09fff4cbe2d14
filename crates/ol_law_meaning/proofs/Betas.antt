-- A step at a redex, both ways.
use Rattle.std.proofs.Common.{inr, ◌≡◌, ℕ, zero, suc, ◌+◌, true, false, Some, refl, sym, ap, ◌∙◌, subst, arith}
use Rattle.std.proofs.lemmas.Bool.{or_left, or_right}
use Rattle.ol_law_meaning.specs.Contraction.{fun, o, app_arg, in_arg, lam_top, Tree, lam, app, Level, Context, Wire}
use Rattle.ol_law_meaning.specs.Contraction.{bound, name, under, occurs, left, right, lifted_wire, wire_without}
use Rattle.ol_law_meaning.specs.Contraction.{subst_for, Place, root, wire, Spot, at, arg, Edge, lam_root, lam_wire}
use Rattle.ol_law_meaning.specs.Contraction.{app_root, app_left, app_right, in_fun, Trail, here, on, back, Cut, inM}
use Rattle.ol_law_meaning.specs.Contraction.{inN, CutEdge, ofM, ofN, WireOf, own, lam_n, fun_n, arg_n, Held, at_root}
use Rattle.ol_law_meaning.specs.Contraction.{wire_m, wire_n, Opens, top, side_m, side_n, IsRight, IsLevelOf}
use Rattle.ol_law_meaning.specs.Steps.{SameRedex, redex_root, redex_m, redex_n}
use Rattle.ol_law_meaning.proofs.Trails.{tr_trans, tr_sym, one_back}
use Rattle.ol_law_meaning.proofs.Addresses.{gone, occurs_new, occurs_old, own_occurs, level_copied}
use Rattle.ol_law_meaning.proofs.Copying.{Copies, copy, copy_body, copy_fun, copy_arg, held_copy, copy_out}
use Rattle.ol_law_meaning.proofs.There.{Onto, there, there_back, by_wire, root_is}
use Rattle.ol_law_meaning.proofs.Back.{back_on, back_off, held_root, held_wire, Tagged, tag_m, tag_n}
use Rattle.ol_law_meaning.proofs.Redexes.{opens_there, opens_back, closes, closes_back, To, deep_m, deep_n}
use Rattle.ol_law_meaning.proofs.Ones.{n_there}
use Rattle.ol_law_meaning.proofs.Ways.{Gain, Strict, Has, Next, Out, Way}
use Rattle.ol_term.specs.declared.translations.Translation.{Translation}

module _ {τ : Translation} where
  -- a wire of N has an address at each copy
  pub copy_address : {N M : Tree} {i : ℕ} {w : Level} {s z0 : Spot} → Copies τ N M i w s z0 →
      (x z : Wire) (b : Level) → IsLevelOf τ N b → occurs x N ≡ true → z ≡ lifted_wire 0 i x →
      (a' : Level) × WireOf τ N M i (ofN w x b) z a'
  copy_address (copy e q) x z b l h p = (b, own e h p)
  copy_address {i = i} (copy_body r) x z b l h p = let t = copy_address r x (under z) b l h
      (raise i x z p) in (t.0, lam_n t.1)
    where
      raise : (i : ℕ) (x z : Wire) → z ≡ lifted_wire 0 i x → under z ≡ lifted_wire 0 (suc i) x
      raise i (bound x) (bound z) e = ap bound (let k : z ≡ i + x = cc in omega arith)
      raise i (name f) (bound z) e = absurd (cc)
      raise i (bound x) (name z) e = absurd (cc)
      raise i (name x) (name z) e = e
  copy_address (copy_fun r e) x z b l h p = let t = copy_address r x z b l h p in (_, fun_n t.1 e refl)
  copy_address (copy_arg {v = v} r e) x z b l h p = let t = copy_address r x z b l h p in
      (_, arg_n v t.1 e (record { level = level_copied t.1 l; is = refl }))

pub lifted_zero : (y : Wire) → y ≡ lifted_wire 0 0 y
lifted_zero (bound y) = ap bound (omega arith)
lifted_zero (name f) = refl

pub zero_gone : (y : Wire) → wire_without 0 (under y) ≡ Some y
zero_gone (bound y) = refl
zero_gone (name f) = refl

pub zero_from : (x y : Wire) → wire_without 0 x ≡ Some y → x ≡ under y
zero_from (bound zero) y e = absurd (cc)
zero_from (bound (suc x)) y e = let k : bound x ≡ y = cc in ap under k
zero_from (name f) y e = let k : name f ≡ y = cc in ap under k

module _ {τ : Translation} where
  -- along trails
  held_trail : {N M : Tree} {i : ℕ} {c c' : Cut} {z : Spot} {n : ℕ} →
      Trail (CutEdge τ N M i) c c' n → Held τ N M i c z → Onto τ N M i c' z n
  held_trail {z = z} here h = record { spot = z; held = h; trail = here }
  held_trail (on e t q) h = let a = there e h in let k = held_trail t a.held in
      record { spot = k.spot; held = k.held; trail = tr_trans a.trail k.trail q }
  held_trail (back e t q) h = let a = there_back e h in let k = held_trail t a.held in
      record { spot = k.spot; held = k.held; trail = tr_trans a.trail k.trail q }

  pub closes_trail : {N M : Tree} {c c' : Cut} {n : ℕ} → Trail (CutEdge τ N M 0) c c' n → {s : Spot} →
      Opens τ N M s c → To τ N M c' s
  closes_trail here {s} r = record { spot = s; rel = r; weight = 0; trail = here }
  closes_trail {N} {M} (on e t q) {s} r = let a = closes τ N M e r in
      let k = closes_trail t a.rel in record {
        spot = k.spot;
        rel = k.rel;
        weight = a.weight + k.weight;
        trail = tr_trans a.trail k.trail refl;
      }
  closes_trail {N} {M} (back e t q) {s} r = let a = closes_back τ N M e r in
      let k = closes_trail t a.rel in record {
        spot = k.spot;
        rel = k.rel;
        weight = a.weight + k.weight;
        trail = tr_trans a.trail k.trail refl;
      }

-- spots of the redex and of the new term, by the cut
pub record Through (τ : Translation) (M N : Tree) (s z : Spot) : Type 0 where
  pub cut : Cut
  pub opens : Opens τ N M s cut
  pub held : Held τ N M 0 cut z

module _ (τ : Translation) (M N : Tree) where
  abbrev old_term : Tree
  old_term = app (lam M) N

  abbrev new_term : Tree
  new_term = subst_for 0 N M

  through : (p : Place) (v v' : Level) (c : Context) → SameRedex τ M N p v v' → Through τ M N (at p v c) (at p v' c)
  through p v v' c redex_root = record { cut = inM (at root v c); opens = top; held = at_root }
  through p v v' c (redex_m {y = y} {a = a} e r) = record {
    cut = inM (at (wire (under y)) a c);
    opens = side_m refl (occurs_old r) e;
    held = wire_m r;
  }
  through p v v' c (redex_n {y = y} {b = b} {v = w} e r) = record {
    cut = inN w (at (wire y) b c);
    opens = side_n (own_occurs r) (n_there r).0 e;
    held = wire_n r;
  }

  redex_old : (y : Wire) (a a' : Level) → SameRedex τ M N (wire y) a a' → occurs y old_term ≡ true
  redex_old y a a' (redex_m e r) = or_left (occurs y (lam M)) (occurs y N) (occurs_old r)
  redex_old y a a' (redex_n e r) = or_right (occurs y (lam M)) (occurs y N) (n_there r).0

  redex_new : (y : Wire) (a a' : Level) → SameRedex τ M N (wire y) a a' → occurs y new_term ≡ true
  redex_new y a a' (redex_m e r) = occurs_new r
  redex_new y a a' (redex_n e r) = occurs_new r

  -- ---- there

  beta_go : (s s' z : Spot) (n : ℕ) → Edge τ old_term s s' n → Through τ M N s z →
      Next τ new_term (Through τ M N) true s' z n
  beta_go s s' z n e r =
      let a = opens_there τ N M e r.opens in
      let k = held_trail a.trail r.held in
      record {
        spot = k.spot;
        rel = record { cut = a.spot; opens = a.rel; held = k.held };
        weight = a.weight;
        few = λ e. a.few;
        trail = k.trail;
      }

  beta_come : (s s' z : Spot) (n : ℕ) → Edge τ old_term s' s n → Through τ M N s z →
      Next τ new_term (Through τ M N) true s' z n
  beta_come s s' z n e r =
      let a = opens_back τ N M e r.opens in
      let k = held_trail a.trail r.held in
      record {
        spot = k.spot;
        rel = record { cut = a.spot; opens = a.rel; held = k.held };
        weight = a.weight;
        few = λ e. a.few;
        trail = k.trail;
      }

  beta_leaves : (p : Place) (v : Level) (c : Context) (z : Spot) (k : Cut) →
      Opens τ N M (at p v c) k → Held τ N M 0 k z → Out τ new_term (SameRedex τ M N) true p v c z
  beta_leaves p v c z k top h = record {
    level = v;
    same = redex_root;
    weight = 0;
    few = λ e. omega arith;
    trail = subst (λ s. Trail (Edge τ new_term) z s 0) (root_is h) here;
  }
  beta_leaves p v c z k (side_m {y = y} {z = x} {a = a} q m e) h =
      let b = by_wire h y (ap (wire_without 0) q ∙ zero_gone y) in
      record {
        level = b.level;
        same = redex_m e
            (subst (λ x. WireOf τ N M 0 (ofM x a) y b.level) q b.address);
        weight = 0;
        few = λ e. omega arith;
        trail = subst (λ s. Trail (Edge τ new_term) z s 0) b.is here;
      }
  beta_leaves p v c z k (side_n {y = y} {b = b} m n e) h =
      let t = held_copy h in
      let a = copy_address t.1 y y b e.level n (lifted_zero y) in
      record {
        level = a.0;
        same = redex_n e a.1;
        weight = 0;
        few = λ e. omega arith;
        trail = tr_trans (tr_sym t.2) (copy_out a.1 t.1) (omega arith);
      }

  pub way_there : Way τ old_term new_term (SameRedex τ M N) true
  way_there = record {
    R = Through τ M N;
    start = through;
    go = beta_go;
    come = beta_come;
    out = λ p v c z r h. beta_leaves p v c z r.cut r.opens r.held;
    old = redex_old;
    new = redex_new;
  }

  -- its spots
  pub there_is : {s z : Spot} → way_there.R s z → Through τ M N s z
  unfolding way_there
  there_is r = r

  pub is_there : {s z : Spot} → Through τ M N s z → way_there.R s z
  unfolding way_there
  is_there r = r

  -- ---- and back

  abbrev Undone : Spot → Spot → Type 0
  Undone z s = Through τ M N s z

  abbrev Before : Place → Level → Level → Type 0
  Before p v' v = SameRedex τ M N p v v'

  undo_go : (z z' s : Spot) (n : ℕ) → Edge τ new_term z z' n → Undone z s → Next τ old_term Undone false z' s n
  undo_go z z' s n e r =
      let a = back_on M e r.held in
      let k = closes_trail a.trail r.opens in
      record {
        spot = k.spot;
        rel = record { cut = a.cut; opens = k.rel; held = a.held };
        weight = k.weight;
        few = λ e. absurd (cc);
        trail = k.trail;
      }

  undo_come : (z z' s : Spot) (n : ℕ) → Edge τ new_term z' z n → Undone z s → Next τ old_term Undone false z' s n
  undo_come z z' s n e r =
      let a = back_off M e r.held in
      let k = closes_trail a.trail r.opens in
      record {
        spot = k.spot;
        rel = record { cut = a.cut; opens = k.rel; held = a.held };
        weight = k.weight;
        few = λ e. absurd (cc);
        trail = k.trail;
      }

  undo_leaves : (p : Place) (v : Level) (c : Context) (s : Spot) → Undone (at p v c) s →
      Has p new_term → Out τ old_term Before false p v c s
  undo_leaves root v c s r m =
      let k = closes_trail (held_root r.held) r.opens in
      let d = deep_m τ N M k.rel in
      record {
        level = v;
        same = redex_root;
        weight = _;
        few = λ e. absurd (cc);
        trail = tr_trans (tr_trans k.trail d.trail refl)
            (tr_trans (one_back (in_fun lam_root)) (one_back app_root) refl) refl;
      }
  undo_leaves (wire y) v c s r m = let t = held_wire r.held m in by_tag t.cut t.tagged t.trail
    where
      by_tag : (b : Cut) → Tagged τ N M 0 y v c b → Trail (CutEdge τ N M 0) r.cut b 0 →
          Out τ old_term Before false (wire y) v c s
      by_tag b (tag_m {y = x} {a = a} i) t =
          let q = zero_from x y (gone i) in
          let i2 = subst (λ x. WireOf τ N M 0 (ofM x a) y v) q i in
          let k = closes_trail t r.opens in
          let d = deep_m τ N M k.rel in
          let h = occurs_old i in
          record {
            level = left N y a;
            same = redex_m refl i2;
            weight = _;
            few = λ e. absurd (cc);
            trail = tr_trans (tr_trans k.trail d.trail refl)
                (tr_trans (one_back (in_fun (lam_wire q h))) (one_back (app_left (occurs_old i2) refl)) refl) refl;
          }
      by_tag b (tag_n {w = w} {b = l} {x = x} i) t =
          let q : y ≡ x = (n_there i).1 ∙ sym (lifted_zero x) in
          let i2 = subst (λ x. WireOf τ N M 0 (ofN w x l) y v) (sym q) i in
          let k = closes_trail t r.opens in
          let deep = deep_n τ N M k.rel in
          let d = deep.0 in
          let f : IsRight τ (lam M) N y l w (right τ (lam M) N y l w) = record { level = deep.2; is = refl } in
          let u : Trail (Edge τ old_term) k.spot (arg w (at (wire y) l c)) d.weight = subst
          (λ x. Trail (Edge τ old_term) k.spot (arg w (at (wire x) l c)) d.weight) (sym q) d.trail in
          record {
            level = right τ (lam M) N y l w;
            same = redex_n f i2;
            weight = _;
            few = λ e. absurd (cc);
            trail = tr_trans (tr_trans k.trail u refl) (one_back (app_right (n_there i2).0 f)) refl;
          }

  pub way_back : Way τ new_term old_term Before false
  way_back = record {
    R = Undone;
    start = λ p v' v c r. through p v v' c r;
    go = undo_go;
    come = undo_come;
    out = undo_leaves;
    old = λ y a' a r. redex_new y a a' r;
    new = λ y a' a r. redex_old y a a' r;
  }

-- ---- strictness

module _ (τ : Translation) (M N : Tree) (v : Level) (c : Context) where
  abbrev Pre : Spot → Type 0
  Pre s = s ≡ at root v c

  own_gain : (u : Level) (d : Context) (z : Spot) (k : Cut) → Opens τ N M (at root u d) k →
      Held τ N M 0 k z → Gain τ (subst_for 0 N M) (Through τ M N) Pre (fun (at root (o u) d)) z 1
  own_gain u d z k top h = record {
    next = record {
      spot = z;
      rel = record { cut = inM (at root u d); opens = lam_top; held = h };
      weight = 0;
      few = λ e. omega arith;
      trail = here;
    };
    gain = inr (omega arith);
  }

  r_go : {s s' z : Spot} {n : ℕ} → Edge τ (app (lam M) N) s s' n → Through τ M N s z → Pre s →
      Gain τ (subst_for 0 N M) (Through τ M N) Pre s' z n
  r_go {z = z} (app_root {v = u} {c = d}) r p = own_gain u d z r.cut r.opens r.held
  r_go (app_arg e) r p = absurd (cc)
  r_go (app_left m e) r p = absurd (cc)
  r_go (app_right m e) r p = absurd (cc)
  r_go (in_fun e) r p = absurd (cc)
  r_go (in_arg e) r p = absurd (cc)

  r_come : {s s' z : Spot} {n : ℕ} → Edge τ (app (lam M) N) s' s n → Through τ M N s z → Pre s →
      Gain τ (subst_for 0 N M) (Through τ M N) Pre s' z n
  r_come app_root r p = absurd (cc)
  r_come (app_arg e) r p = absurd (cc)
  r_come (app_left m e) r p = absurd (cc)
  r_come (app_right m e) r p = absurd (cc)
  r_come (in_fun e) r p = absurd (cc)
  r_come (in_arg e) r p = absurd (cc)

  pub strict_beta : Strict τ (app (lam M) N) (subst_for 0 N M) (SameRedex τ M N) (way_there τ M N) v c
  unfolding way_there
  strict_beta = record {
    Pre = Pre;
    first = refl;
    only = λ p u d h. h;
    pre_go = λ s s' z n e r p. r_go e r p;
    pre_come = λ s s' z n e r p. r_come e r p;
  }
