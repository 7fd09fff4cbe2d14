-- Crossings of open contexts, and the value that stands where a leaf was.
use Rattle.std.proofs.Common.{◌≡◌, ℕ, zero, suc, ◌+◌, ◌-◌, ◌<◌, ◌≤◌, ◌⊎◌, ◌↔◌, List, [], ◌∷◌, length, get_or, drop}
use Rattle.std.proofs.Common.{Option, Some, None, refl, sym, ap, ◌∙◌, subst, arith}
use Rattle.ol_net.specs.declared.parts.Kind.{Kind}
use Rattle.ol_net.specs.Parts.{arity}
use Rattle.ol_net.specs.Nets.{NamedNet, NamedPort}
use Rattle.ol_context.specs.declared.answers.Cross.{Cross}
use Rattle.ol_context.specs.declared.answers.Cross.TheVariants.{Undefined}
use Rattle.ol_context.specs.Contexts.{Level, empty, Context, cons, at_level, up}
use Rattle.ol_context.specs.Paths.{Crosses, inward}
use Rattle.ol_context.specs.Shapes.{value, AreHeld, Extends, IsNumberOf, context_of}
use Rattle.ol_context.specs.Crossings.{NoCrossing, IsCrossed}
use Rattle.ol_context.specs.Asked.{os}
use Rattle.ol_context.specs.Open.{wrapped, filled, reading, Open, Covers, open_at, IsHeldPart, AreHeldParts}
use Rattle.ol_context.specs.Leaves.{seen, IsKept, LeafHasMoved}
use Rattle.ol_context.specs.Passed.{OpenThrough, IsOpenBarred}
use Rattle.ol_context.specs.Passing.{HasPassed}
use Rattle.ol_context.specs.declared.leaf.Leaf.{Leaf}
use Rattle.ol_context.specs.declared.leaf.Fate.TheVariants.{Stays, Grows, Goes}
use Rattle.ol_context.specs.declared.leaf.Around.{Around}
use Rattle.ol_context.proofs.Shapes.{extends_trans, context_more}
use Rattle.ol_context.proofs.Leaves.{filled_more, parts_more}

abbrev pub open_with : List ℕ → Option (ℕ × List Around) → ℕ → Open
open_with ns l n = record { levels = ns; leaf = l; lams = n }

module _ (k : Kind) (i s : ℕ) (old new : List Level) (X : Open) (ns ms : List ℕ) (L : ℕ) where
  pub passed_closed : open_with ns None L ≡ X → (r : Option ℕ) → IsCrossed k i s old new ns ms r →
      HasPassed k i s old new X (open_with ms None L) r
  passed_closed e None h = subst (λ (X : Open).
      HasPassed k i s old new X (open_with ms None L) None) e (λ n b. h.0, ap (λ ns. open_with ns None L) h.1)
  passed_closed e (Some t) h = subst (λ (X : Open).
      HasPassed k i s old new X (open_with ms None L) (Some t)) e
      (record { within = λ n b. b; made = λ n b. h; barred = λ n b c. absurd (c b) })

  module _ (l m : Leaf) (e : open_with ns (Some (seen l)) L ≡ X) where
    pub passed_none : LeafHasMoved k i s old new ns ms l m None → IsKept ns ms l m →
        HasPassed k i s old new X (open_with ms (Some (seen m)) L) None
    passed_none h u =
        subst (λ (X : Open). HasPassed k i s old new X (open_with ms (Some (seen m)) L) None) e (
          λ n b. h (n - L),
          ap (λ ns. open_with ns (Some (seen m)) L) u.0
              ∙ ap (λ (l : ℕ × List Around). open_with ns (Some l) L) u.1,
        )

    pub passed_stays : (t : ℕ) → LeafHasMoved k i s old new ns ms l m (Some (t, Stays)) →
        HasPassed k i s old new X (open_with ms (Some (seen m)) L) (Some t)
    passed_stays t h =
        subst (λ (X : Open). HasPassed k i s old new X (open_with ms (Some (seen m)) L) (Some t)) e
        (record { within = λ n b. b; made = λ n b. h (os (n - L) empty); barred = λ n b c. absurd (c b) })

    pub passed_grows : (t : ℕ) → LeafHasMoved k i s old new ns ms l m (Some (t, Grows)) →
        HasPassed k i s old new X (open_with ms (Some (seen m)) (L + 1)) (Some t)
    passed_grows t h = subst (λ (X : Open).
        HasPassed k i s old new X (open_with ms (Some (seen m)) (L + 1)) (Some t)) e
        (record { within = within; made = made; barred = barred })
      where
        within : (n : ℕ) → L + 1 ≤ n → L ≤ n
        within n b = omega arith

        made : (n : ℕ) → L + 1 ≤ n → Crosses k i s
            (reading old ns (Some (seen l)) (os (n - L) empty)) t
            (reading new ms (Some (seen m)) (os (n - (L + 1)) empty))
        made n b =
            let q : suc (n - (L + 1)) ≡ n - L = omega arith in
            subst (λ j. Crosses k i s (reading old ns (Some (seen l)) (os j empty)) t
            (reading new ms (Some (seen m)) (os (n - (L + 1)) empty))) q (h.0 (os (n - (L + 1)) empty))

        barred : (n : ℕ) → L ≤ n → (L + 1 ≤ n → ⊥) →
            NoCrossing k i s (reading old ns (Some (seen l)) (os (n - L) empty))
        barred n b c = let q : 0 ≡ n - L = omega arith in
            subst (λ j. NoCrossing k i s (reading old ns (Some (seen l)) (os j empty))) q h.1

    pub passed_goes : (t : ℕ) → LeafHasMoved k i s old new ns ms l m (Some (t, Goes)) →
        HasPassed k i s old new X (open_with ms None L) (Some t)
    passed_goes t h = subst (λ (X : Open).
        HasPassed k i s old new X (open_with ms None L) (Some t)) e
        (record { within = within; made = made; barred = barred })
      where
        within : (n : ℕ) → n ≡ L → L ≤ n
        within n b = omega arith

        made : (n : ℕ) → n ≡ L → Crosses k i s (reading old ns (Some (seen l)) (os (n - L) empty)) t (context_of new ms)
        made n b = let q : 0 ≡ n - L = omega arith in
            subst (λ j. Crosses k i s (reading old ns (Some (seen l)) (os j empty)) t (context_of new ms)) q h.0

        barred : (n : ℕ) → L ≤ n → (n ≡ L → ⊥) → NoCrossing k i s (reading old ns (Some (seen l)) (os (n - L) empty))
        barred n b c = let q : suc (n - L - 1) ≡ n - L = omega arith in
            subst (λ j. NoCrossing k i s (reading old ns (Some (seen l)) (os j empty))) q (h.1 (os (n - L - 1) empty))

-- towards slot 0
pub rises : (k : Kind) (i s : ℕ) (c d : Context) → (s ≡ 0 → ⊥) → s ≤ arity k →
    d ≡ up k i (s - 1) c → Crosses k i s c 0 d
rises k i s c d n b e = let q : suc (s - 1) ≡ s = omega arith in
    subst (λ s. Crosses k i s c 0 d) q (inward (omega arith) (sym e))

-- the parts round a value, one after another
pub record Filling (old vs : List Level) (ps : List Around) (v whole k : ℕ) : Type 0 where
  pub extends : Extends old vs
  pub held : whole < length vs
  pub parts : AreHeldParts vs (drop k ps)
  pub is : filled vs (drop k ps) (value vs whole) ≡ filled old ps (value old v)

drop_at : (ps : List Around) (k : ℕ) (q : Around) → k < length ps → q ≡ get_or ps k q → drop k ps ≡ q ∷ drop (k + 1) ps
drop_at [] k q b e = absurd (omega arith)
drop_at (p ∷ ps) zero q b e = ap (λ (p : Around). p ∷ ps) (sym e)
drop_at (p ∷ ps) (suc k) q b e = let i : suc (k + 1) ≡ suc k + 1 = omega arith in
    drop_at ps k q (omega arith) e ∙ ap (λ n. q ∷ drop n (p ∷ ps)) i

drop_all : (ps : List Around) (k : ℕ) → length ps ≤ k → drop k ps ≡ []
drop_all [] zero b = refl
drop_all [] (suc k) b = refl
drop_all (p ∷ ps) zero b = absurd (omega arith)
drop_all (p ∷ ps) (suc k) b = drop_all ps k (omega arith)

module _ (old vs : List Level) (ps : List Around) (v w k : ℕ) (f : Filling old vs ps v w k) where
  pub part_held : (q : Around) → k < length ps → q ≡ get_or ps k q → IsHeldPart vs q
  part_held q b e = (subst (AreHeldParts vs) (drop_at ps k q b e) f.parts).0

  pub fill_on : (q : Around) → k < length ps → q ≡ get_or ps k q → (ws : List Level) (w' : ℕ) →
      Extends vs ws → IsNumberOf ws w' (wrapped vs q (value vs w)) → Filling old ws ps v w' (k + 1)
  fill_on q b e ws w' x n =
      let h = subst (AreHeldParts vs) (drop_at ps k q b e) f.parts in
      record {
        extends = extends_trans old vs ws f.extends x;
        held = n.held;
        parts = parts_more vs ws (drop (k + 1) ps) x h.1;
        is = filled_more vs ws (drop (k + 1) ps) (value ws w') x h.1
            ∙ ap (filled vs (drop (k + 1) ps)) n.is
            ∙ ap (λ (r : List Around). filled vs r (value vs w)) (sym (drop_at ps k q b e))
            ∙ f.is;
      }

  pub fill_done : length ps ≤ k → IsNumberOf vs w (filled old ps (value old v))
  fill_done b = record {
    held = f.held;
    is = ap (λ (r : List Around). filled vs r (value vs w)) (sym (drop_all ps k b)) ∙ f.is;
  }

-- what an open context stands for at its least number
pub closed_is : (old new : List Level) (X : Open) (ns ms : List ℕ) (L : ℕ) (l : Leaf) →
    open_with ns (Some (seen l)) L ≡ X → (w none : ℕ) → Extends old new → AreHeld old ns →
    context_of new ms ≡ at_level l.at (cons (value new w)) (context_of new ns) →
    value new w ≡ filled old l.around.items (value old none) → value old none ≡ empty →
    context_of new ms ≡ open_at old X X.lams
closed_is old new X ns ms L l e w none x h p q z = subst
    (λ (X : Open). context_of new ms ≡ open_at old X X.lams) e (p ∙ go)
  where
    go : at_level l.at (cons (value new w)) (context_of new ns) ≡ reading old ns (Some (seen l)) (os (L - L) empty)
    go =
        let r : 0 ≡ L - L = omega arith in
        ap (λ v. at_level l.at (cons v) (context_of new ns)) (q ∙ ap (filled old l.around.items) z)
        ∙ ap (at_level l.at (cons (filled old l.around.items empty))) (context_more old new ns x h)
        ∙ ap (λ j. reading old ns (Some (seen l)) (os j empty)) r

pub covers_least : (l : Option (ℕ × List Around)) (n : ℕ) → Covers l n n
covers_least None n = refl
covers_least (Some l) n = omega arith

pub covers_above : (l : Option (ℕ × List Around)) (m n : ℕ) → Covers l m n → m ≤ n
covers_above None m n h = omega arith
covers_above (Some l) m n h = h

pub covers_or : (l : Option (ℕ × List Around)) (m n : ℕ) → Covers l m n ⊎ (Covers l m n → ⊥)
covers_or None m n = grind arith
covers_or (Some l) m n = grind arith

pub open_not_barred : (N : NamedNet ℕ) (p q : NamedPort ℕ) (old new : List Level) (X Y : Open)
    (r : Cross) → OpenThrough N p q old new X Y → (r ≡ Undefined → ⊥) → (r ≡ Undefined) ↔ IsOpenBarred N p old X
open_not_barred N p q old new X Y r t apart =
    let b = covers_least Y.leaf Y.lams in
    (λ e. absurd (apart e), λ h. absurd (h Y.lams (t.within Y.lams b) q (open_at new Y Y.lams) (t.made Y.lams b)))
