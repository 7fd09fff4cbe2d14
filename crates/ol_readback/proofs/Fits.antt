-- An exit against one frame, level by level.
use Rattle.std.proofs.Common.{◌≡◌, ℕ, zero, suc, ◌+◌, ◌<◌, ◌≤◌, ◌⊎◌, inl, inr, List, [], ◌∷◌, ◌++◌}
use Rattle.std.proofs.Common.{length, map, get_or, Option, Some, None, refl, sym, ap, ◌∙◌, arith}
use Rattle.std.proofs.Math.Path.{fun_ext}
use Rattle.std.proofs.lemmas.List.{get_or-map}
use Rattle.ol_context.specs.Contexts.{Level, empty, o, star, pair, Context, levels, tail}
use Rattle.ol_context.specs.Shapes.{value}
use Rattle.ol_context.proofs.Contexts.{eta, cons_eq}
use Rattle.ol_context.proofs.LevelLists.{levels_cons}
use Rattle.ol_readback.specs.Frames.{os}
use Rattle.ol_readback.specs.Matching.{Fits}
use Rattle.ol_readback.specs.Fitting.{IsNoO, IsNoStar, IsFit, BeginsWith, BeginsNotWith, IsMark}
use Rattle.ol_readback.specs.Fitting.{IsCount, IsLastCount, IsNameOf}

pub os_o : (n : ℕ) (v : Level) → os n (o v) ≡ os (n + 1) v
os_o zero v = refl
os_o (suc n) v = let e : suc (n + 1) ≡ suc n + 1 = omega arith in ap o (os_o n v) ∙ ap (λ m. os m v) e

-- how many o stand before a value that is none
pub os_one : (j k : ℕ) (v w : Level) → IsNoO v → IsNoO w → os j v ≡ os k w → (j ≡ k) × (v ≡ w)
os_one zero zero v w a b e = (refl, e)
os_one zero (suc k) v w a b e = absurd (a (os k w) e)
os_one (suc j) zero v w a b e = absurd (b (os j v) (sym e))
os_one (suc j) (suc k) v w a b e =
    let q : o (os j v) ≡ o (os k w) = e in
    let q' : os j v ≡ os k w = cc in
    let r = os_one j k v w a b q' in (ap suc r.0, r.1)

pub star_no_o : (d : Level) → IsNoO (star d)
star_no_o d w e = absurd (cc)

pub empty_no_o : IsNoO empty
empty_no_o w e = absurd (cc)

pub pair_no_o : (x y : Level) → IsNoO (pair x y)
pair_no_o x y w e = absurd (cc)

pub no_mark : (v w : Level) (n : ℕ) → v ≡ os n w → IsNoO w → IsNoStar w → IsMark v None
no_mark v w n e a s j d f = let t = os_one n j w (star d) a (star_no_o d) (sym e ∙ f) in s d t.1

pub no_count : (v w : Level) (n : ℕ) → v ≡ os n w → IsNoO w → (w ≡ empty → ⊥) → IsCount v None
no_count v w n e a s k f = let t = os_one n k w empty a empty_no_o (sym e ∙ f) in s t.1

pub last_count : (m : ℕ) (X : Context) (v : Level) (r : Option ℕ) → v ≡ X m → IsCount v r →
    ((i : ℕ) → m + 1 ≤ i → X i ≡ empty) → IsLastCount m X r
last_count m X v None e n h = λ k f g. n k (e ∙ f)
last_count m X v (Some k) e n h = (sym e ∙ n, λ i b. h i (omega arith))

-- a context that is a list, level by level
pub from_levels : (ls : List Level) (a b : Level) (X : Context) →
    ((i : ℕ) → i < length ls → X i ≡ get_or ls i empty) → X (length ls) ≡ a → X (suc (length ls)) ≡ b →
    ((i : ℕ) → suc (length ls) < i → X i ≡ empty) → X ≡ levels (ls ++ (a ∷ (b ∷ [])))
from_levels [] a b X h p q r = fun_ext go
  where
    go : (n : ℕ) → X n ≡ levels (a ∷ (b ∷ [])) n
    go zero = p
    go (suc zero) = q
    go (suc (suc n)) = r (suc (suc n)) (omega arith)
from_levels (v ∷ ls) a b X h p q r =
    sym (eta X) ∙ cons_eq (X 0) v (tail X) (levels (ls ++ (a ∷ (b ∷ [])))) (h 0 (omega arith))
    (from_levels ls a b (tail X) (λ i z. h (suc i) (omega arith)) p q (λ i z. r (suc i) (omega arith)))
    ∙ sym (levels_cons v (ls ++ (a ∷ (b ∷ []))))

pub level_before : (ls : List Level) (a b : Level) (i : ℕ) → i < length ls →
    levels (ls ++ (a ∷ (b ∷ []))) i ≡ get_or ls i empty
level_before [] a b i z = absurd (omega arith)
level_before (v ∷ ls) a b zero z = refl
level_before (v ∷ ls) a b (suc i) z = level_before ls a b i (omega arith)

pub level_first : (ls : List Level) (a b : Level) → levels (ls ++ (a ∷ (b ∷ []))) (length ls) ≡ a
level_first [] a b = refl
level_first (v ∷ ls) a b = level_first ls a b

pub level_second : (ls : List Level) (a b : Level) → levels (ls ++ (a ∷ (b ∷ []))) (suc (length ls)) ≡ b
level_second [] a b = refl
level_second (v ∷ ls) a b = level_second ls a b

pub level_after : (ls : List Level) (a b : Level) (i : ℕ) → suc (length ls) < i →
    levels (ls ++ (a ∷ (b ∷ []))) i ≡ empty
level_after [] a b zero z = absurd (omega arith)
level_after [] a b (suc zero) z = absurd (omega arith)
level_after [] a b (suc (suc i)) z = refl
level_after (v ∷ ls) a b zero z = absurd (omega arith)
level_after (v ∷ ls) a b (suc i) z = level_after ls a b i (omega arith)

module _ (ls : List Level) (l : ℕ) (X : Context) where
  at : (i : ℕ) {j k : ℕ} {d : Level} → Fits ls l X j k d → X i ≡ levels (ls ++ (os j (star d) ∷ (os k empty ∷ []))) i
  at i f = ap (λ (c : Context). c i) f.is

  -- the level after those of the frame
  pub mark_of : (j k : ℕ) (d : Level) → Fits ls l X j k d → X (length ls) ≡ os j (star d)
  mark_of j k d f = at (length ls) f ∙ level_first ls (os j (star d)) (os k empty)

  pub begins_not : BeginsNotWith ls X → IsFit ls l X None
  begins_not n j k d f = n (λ i b. at i f ∙ level_before ls (os j (star d)) (os k empty) i b)

  pub marks_not : (m : ℕ) (v : Level) → m ≡ length ls → v ≡ X m → IsMark v None → IsFit ls l X None
  marks_not m v q e n j k d f = n j d (e ∙ ap X q ∙ mark_of j k d f)

  pub binds_not : (m i : ℕ) (v : Level) → m ≡ length ls → v ≡ X m → IsMark v (Some i) → l ≤ i → IsFit ls l X None
  binds_not m i v q e h b j k d f =
      let t = os_one i j (star h.0) (star d) (star_no_o h.0) (star_no_o d) (sym h.1 ∙ e ∙ ap X q ∙ mark_of j k d f) in
      let c = f.below in let r = t.0 in absurd (omega arith)

  pub counts_not : (m : ℕ) → m ≡ suc (length ls) → IsLastCount m X None → IsFit ls l X None
  counts_not m q n j k d f = n k (ap X q ∙ at (suc (length ls)) f ∙ level_second ls (os j (star d)) (os k empty))
      (λ i b. at i f ∙ level_after ls (os j (star d)) (os k empty) i (omega arith))

  pub fit : (m m' j k : ℕ) (v : Level) → BeginsWith ls X → m ≡ length ls → v ≡ X m →
      IsMark v (Some j) → j < l → m' ≡ suc (length ls) → IsLastCount m' X (Some k) → IsFit ls l X (Some (j, k))
  fit m m' j k v h q e s b q' t = (
    s.0,
    record {
      below = b;
      is = from_levels ls (os j (star s.0)) (os k empty) X h
          (sym (ap X q) ∙ sym e ∙ s.1) (sym (ap X q') ∙ t.0) (λ i z. t.1 i (omega arith));
    },
  )

-- a free name
pub opens_not : (q : ℕ) (X : Context) → IsLastCount 1 X None → IsNameOf q X None
opens_not q X n v k b e = n k (ap (λ (c : Context). c 1) e) (λ i z. after i z)
  where
    after : (i : ℕ) → 1 < i → X i ≡ empty
    after zero z = absurd (omega arith)
    after (suc zero) z = absurd (omega arith)
    after (suc (suc i)) z = ap (λ (c : Context). c (suc (suc i))) e

pub opens : (q k : ℕ) (X : Context) → 1 ≤ q → IsLastCount 1 X (Some k) → IsNameOf q X (Some k)
opens q k X b h = (b, from_levels [] (X 0) (os k empty) X (λ i z. absurd (omega arith)) refl h.0 h.1)

pub name_of : (q : ℕ) (X : Context) (r : Option ℕ) → 1 ≤ q → IsLastCount 1 X r → IsNameOf q X r
name_of q X None b n = opens_not q X n
name_of q X (Some k) b h = opens q k X b h

-- the levels of a frame, one after another
module _ (vs : List Level) (ms : List ℕ) (X : Context) where
  pub wanted_is : (i y : ℕ) → i < length ms → y ≡ get_or ms i y → get_or (map (value vs) ms) i empty ≡ value vs y
  wanted_is i y b g = get_or-map (value vs) ms i y empty b ∙ ap (value vs) (sym g)

  pub level_more : (n x y : ℕ) → ((k : ℕ) → k < n → X k ≡ get_or (map (value vs) ms) k empty) →
      n < length ms → value vs x ≡ X n → y ≡ get_or ms n y → value vs x ≡ value vs y →
      (k : ℕ) → k < n + 1 → X k ≡ get_or (map (value vs) ms) k empty
  level_more n x y h b e g q k z = go (cases k n z)
    where
      cases : (k n : ℕ) → k < n + 1 → (k < n) ⊎ (k ≡ n)
      cases k n z = grind arith

      go : (k < n) ⊎ (k ≡ n) → X k ≡ get_or (map (value vs) ms) k empty
      go (inl l) = h k l
      go (inr r) = ap X r ∙ sym e ∙ q ∙ sym (wanted_is n y b g) ∙ ap (λ k. get_or (map (value vs) ms) k empty) (sym r)
