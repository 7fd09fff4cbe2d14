-- Levels of which one has a leaf.
use Rattle.std.proofs.Common.{◌≡◌, ℕ, suc, ◌+◌, ◌-◌, List, [], ◌∷◌, ◌++◌, Some, refl, sym, ap, ◌∙◌, subst, arith}
use Rattle.ol_net.specs.declared.parts.Kind.{Kind}
use Rattle.ol_net.specs.declared.parts.Kind.TheVariants as kind
use Rattle.ol_context.specs.Contexts.{Level, empty, pair, Context, cons, tail, at_level, marked}
use Rattle.ol_context.specs.Contexts.{mark, packed, change, up, shift, IsCrosser}
use Rattle.ol_context.specs.Shapes.{Extends, context_of}
use Rattle.ol_context.specs.Crossings.{NoCrossing}
use Rattle.ol_context.specs.Open.{wrapped, filled, reading, IsHeldPart, AreHeldParts}
use Rattle.ol_context.specs.declared.leaf.Around.{Around}
use Rattle.ol_context.specs.declared.leaf.Around.TheVariants.{O, Star, First, Second}
use Rattle.ol_context.proofs.Contexts.{commute, pull, at_level_add, lift_commute}
use Rattle.ol_context.proofs.LevelLists.{after, after_first, at_level_at, at_level_two}
use Rattle.ol_context.proofs.LevelLists.{at_level_same, at_level_id, at_level_next}
use Rattle.ol_context.proofs.Crossings.{no_crossing}

-- the parts round a leaf
wrapped_more : (vs ws : List Level) (p : Around) (v : Level) → Extends vs ws → IsHeldPart vs p →
    wrapped ws p v ≡ wrapped vs p v
wrapped_more vs ws O v x h = refl
wrapped_more vs ws Star v x h = refl
wrapped_more vs ws (First b) v x h = ap (pair v) (x.same b h)
wrapped_more vs ws (Second a) v x h = ap (λ w. pair w v) (x.same a h)

pub filled_more : (vs ws : List Level) (ps : List Around) (v : Level) → Extends vs ws →
    AreHeldParts vs ps → filled ws ps v ≡ filled vs ps v
filled_more vs ws [] v x h = refl
filled_more vs ws (p ∷ ps) v x h = ap (filled ws ps) (wrapped_more vs ws p v x h.0)
    ∙ filled_more vs ws ps (wrapped vs p v) x h.1

part_more : (vs ws : List Level) (p : Around) → Extends vs ws → IsHeldPart vs p → IsHeldPart ws p
part_more vs ws O x h = tt
part_more vs ws Star x h = tt
part_more vs ws (First b) x h = let l = x.longer in omega arith
part_more vs ws (Second a) x h = let l = x.longer in omega arith

pub parts_more : (vs ws : List Level) (ps : List Around) → Extends vs ws → AreHeldParts vs ps → AreHeldParts ws ps
parts_more vs ws [] x h = tt
parts_more vs ws (p ∷ ps) x h = (part_more vs ws p x h.0, parts_more vs ws ps x h.1)

pub parts_push : (vs : List Level) (ps qs : List Around) (p : Around) → qs ≡ ps ++ p ∷ [] →
    AreHeldParts vs ps → IsHeldPart vs p → AreHeldParts vs qs
parts_push vs ps qs p e h k = subst (AreHeldParts vs) (sym e) (go ps h)
  where
    go : (ps : List Around) → AreHeldParts vs ps → AreHeldParts vs (ps ++ p ∷ [])
    go [] h = (k, tt)
    go (q ∷ ps) h = (h.0, go ps h.1)

pub parts_pop : (vs : List Level) (ps qs : List Around) (p : Around) → qs ≡ ps ++ p ∷ [] →
    AreHeldParts vs qs → AreHeldParts vs ps × IsHeldPart vs p
parts_pop vs ps qs p e h = go ps (subst (AreHeldParts vs) e h)
  where
    go : (ps : List Around) → AreHeldParts vs (ps ++ p ∷ []) → AreHeldParts vs ps × IsHeldPart vs p
    go [] h = (tt, h.0)
    go (q ∷ ps) h = let t = go ps h.1 in ((h.0, t.0), t.1)

pub filled_push : (vs : List Level) (ps qs : List Around) (p : Around) (v : Level) →
    qs ≡ ps ++ p ∷ [] → filled vs qs v ≡ wrapped vs p (filled vs ps v)
filled_push vs ps qs p v e = ap (λ (qs : List Around). filled vs qs v) e ∙ go ps v
  where
    go : (ps : List Around) (v : Level) → filled vs (ps ++ p ∷ []) v ≡ wrapped vs p (filled vs ps v)
    go [] v = refl
    go (q ∷ ps) v = go ps (wrapped vs q v)

-- a node at an earlier level
module _ (f : Kind) (is : IsCrosser f) (s i j p p' : ℕ) (low : p ≡ i + shift f j)
    (high : p' ≡ i + suc j) (ps : List Around) where
  pub risen_before : (old new : List Level) (ns ms : List ℕ) → Extends old new →
      AreHeldParts old ps → context_of new ms ≡ up f i s (context_of old ns) →
      (v : Level) → reading new ms (Some (p', ps)) v ≡ up f i s (reading old ns (Some (p, ps)) v)
  risen_before old new ns ms x h e v =
      ap (λ q. at_level q (cons (filled new ps v)) (context_of new ms)) high
      ∙ ap (λ w. at_level (i + suc j) (cons w) (context_of new ms)) (filled_more old new ps v x h)
      ∙ ap (at_level (i + suc j) (cons (filled old ps v))) e
      ∙ sym (commute f s is i j (cons (filled old ps v)) (context_of old ns))
      ∙ ap (λ q. up f i s (at_level q (cons (filled old ps v)) (context_of old ns))) (sym low)

  pub fallen_before : (vs : List Level) (ns ms : List ℕ) →
      up f i s (context_of vs ms) ≡ context_of vs ns → (v : Level) →
      up f i s (reading vs ms (Some (p, ps)) v) ≡ reading vs ns (Some (p', ps)) v
  fallen_before vs ns ms e v =
      ap (λ q. up f i s (at_level q (cons (filled vs ps v)) (context_of vs ms))) low
      ∙ commute f s is i j (cons (filled vs ps v)) (context_of vs ms)
      ∙ ap (at_level (i + suc j) (cons (filled vs ps v))) e
      ∙ ap (λ q. at_level q (cons (filled vs ps v)) (context_of vs ns)) (sym high)

  pub from_before : (vs : List Level) (ns : List ℕ) (v : Level) (d : Context) →
      up f i s d ≡ reading vs ns (Some (p', ps)) v → (b : Context) × (up f i s b ≡ context_of vs ns)
  from_before vs ns v d e =
      let t = pull f s is i j (cons (filled vs ps v)) d (context_of vs ns)
      (e ∙ ap (λ q. at_level q (cons (filled vs ps v)) (context_of vs ns)) high) in
      (t.0, t.2)

-- a node at a later level
beyond : (p j : ℕ) (g : Context → Context) (w : Level) (c : Context) →
    at_level (p + suc j) g (at_level p (cons w) c) ≡ at_level p (cons w) (at_level (p + j) g c)
beyond p j g w c =
    at_level_add p (suc j) g (at_level p (cons w) c)
    ∙ sym (lift_commute (cons w) (at_level (suc j) g) (cons w) (at_level j g) (λ c. refl) p c)
    ∙ ap (at_level p (cons w)) (sym (at_level_add p j g c))

taken_beyond : (p j : ℕ) (g : Context → Context) (c : Context) →
    at_level p tail (at_level (p + suc j) g c) ≡ at_level (p + j) g (at_level p tail c)
taken_beyond p j g c =
    ap (at_level p tail) (at_level_add p (suc j) g c)
    ∙ lift_commute tail (at_level j g) tail (at_level (suc j) g) (λ c. refl) p c
    ∙ sym (at_level_add p j g (at_level p tail c))

taken_out : (p : ℕ) (w : Level) (c : Context) → at_level p tail (at_level p (cons w) c) ≡ c
taken_out p w c = at_level_two p tail (cons w) c ∙ at_level_id p (λ d. tail (cons w d)) c refl

module _ (k : Kind) (s i j p : ℕ) (high : i ≡ p + suc j) (low : i - 1 ≡ p + j) (ps : List Around) where
  pub risen_beyond : (old new : List Level) (ns ms : List ℕ) → Extends old new →
      AreHeldParts old ps → context_of new ms ≡ up k (i - 1) s (context_of old ns) →
      (v : Level) → reading new ms (Some (p, ps)) v ≡ up k i s (reading old ns (Some (p, ps)) v)
  risen_beyond old new ns ms x h e v =
      ap (λ w. at_level p (cons w) (context_of new ms)) (filled_more old new ps v x h)
      ∙ ap (at_level p (cons (filled old ps v))) (e ∙ ap (λ m. up k m s (context_of old ns)) low)
      ∙ sym (beyond p j (change k s) (filled old ps v) (context_of old ns))
      ∙ ap (λ m. up k m s (reading old ns (Some (p, ps)) v)) (sym high)

  pub fallen_beyond : (vs : List Level) (ns ms : List ℕ) →
      up k (i - 1) s (context_of vs ms) ≡ context_of vs ns → (v : Level) →
      up k i s (reading vs ms (Some (p, ps)) v) ≡ reading vs ns (Some (p, ps)) v
  fallen_beyond vs ns ms e v =
      ap (λ m. up k m s (reading vs ms (Some (p, ps)) v)) high
      ∙ beyond p j (change k s) (filled vs ps v) (context_of vs ms)
      ∙ ap (at_level p (cons (filled vs ps v))) (ap (λ m. up k m s (context_of vs ms)) (sym low) ∙ e)

  pub from_beyond : (vs : List Level) (ns : List ℕ) (v : Level) (d : Context) →
      up k i s d ≡ reading vs ns (Some (p, ps)) v → up k (i - 1) s (at_level p tail d) ≡ context_of vs ns
  from_beyond vs ns v d e =
      ap (λ m. up k m s (at_level p tail d)) low
      ∙ sym (taken_beyond p j (change k s) d)
      ∙ ap (λ m. at_level p tail (up k m s d)) (sym high)
      ∙ ap (at_level p tail) e
      ∙ taken_out p (filled vs ps v) (context_of vs ns)

-- a node at the level of the leaf
pub marked_there : (p s : ℕ) (w : Level) (c : Context) →
    at_level p (mark s) (at_level p (cons w) c) ≡ at_level p (cons (marked s w)) c
marked_there p s w c = at_level_two p (mark s) (cons w) c

pub packed_second : (p : ℕ) (w : Level) (c : Context) →
    at_level p packed (at_level p (cons w) c) ≡ at_level p (cons (pair (c p) w)) (at_level p tail c)
packed_second p w c =
    at_level_two p packed (cons w) c
    ∙ at_level_same p (λ d. packed (cons w d)) (λ d. cons (pair (c p) w) (tail d)) c
    (ap (λ v. cons (pair v w) (tail (after p c))) (after_first p c))
    ∙ sym (at_level_two p (cons (pair (c p) w)) tail c)

pub packed_first : (p : ℕ) (w : Level) (c : Context) →
    at_level p packed (at_level (p + 1) (cons w) c) ≡ at_level p (cons (pair w (c p))) (at_level p tail c)
packed_first p w c =
    ap (at_level p packed) (at_level_add p 1 (cons w) c)
    ∙ at_level_two p packed (at_level 1 (cons w)) c
    ∙ at_level_same p (λ d. packed (at_level 1 (cons w) d)) (λ d. cons (pair w (c p)) (tail d)) c
    (ap (λ v. cons (pair w v) (tail (after p c))) (after_first p c))
    ∙ sym (at_level_two p (cons (pair w (c p))) tail c)

pub unpacked_second : (p : ℕ) (w a : Level) (c : Context) →
    at_level p packed (at_level p (cons w) (at_level p (cons a) c)) ≡ at_level p (cons (pair a w)) c
unpacked_second p w a c = ap (at_level p packed) (at_level_two p (cons w) (cons a) c)
    ∙ at_level_two p packed (λ d. cons w (cons a d)) c

pub unpacked_first : (p : ℕ) (w b : Level) (c : Context) →
    at_level p packed (at_level (p + 1) (cons w) (at_level p (cons b) c)) ≡ at_level p (cons (pair w b)) c
unpacked_first p w b c =
    let e : p + 1 ≡ suc p = omega arith in
    ap (λ q. at_level p packed (at_level q (cons w) (at_level p (cons b) c))) e
    ∙ ap (at_level p packed) (at_level_next p (cons w) (λ d. d) b c)
    ∙ at_level_two p packed (λ d. cons b (cons w d)) c

-- where no crossing is defined
there : (p : ℕ) (f : Context → Context) (w : Level) (c d : Context) →
    at_level p f d ≡ at_level p (cons w) c → f (after p d) 0 ≡ w
there p f w c d e = sym (at_level_at p f d) ∙ ap (λ (c : Context). c p) e ∙ at_level_at p (cons w) c

pub no_mark : (p : ℕ) (w : Level) (c : Context) → ((s : ℕ) (v : Level) → marked s v ≡ w → ⊥) →
    NoCrossing kind.Fan p 0 (at_level p (cons w) c)
no_mark p w c h = no_crossing kind.Fan p (at_level p (cons w) c)
    (λ s d b e. h s (after p d 0) (there p (mark s) w c d e))

pub no_put : (p : ℕ) (w : Level) (c : Context) → (empty ≡ w → ⊥) → NoCrossing kind.Croissant p 0 (at_level p (cons w) c)
no_put p w c h = no_crossing kind.Croissant p (at_level p (cons w) c) (λ s d b e. h (there p (cons empty) w c d e))

pub no_pack : (p : ℕ) (w : Level) (c : Context) → ((x y : Level) → pair x y ≡ w → ⊥) →
    NoCrossing kind.Bracket p 0 (at_level p (cons w) c)
no_pack p w c h = no_crossing kind.Bracket p (at_level p (cons w) c)
    (λ s d b e. h (after p d 1) (after p d 0) (there p packed w c d e))
