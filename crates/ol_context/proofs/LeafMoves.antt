-- What crossings make of a leaf.
use Rattle.std.proofs.Common.{◌≡◌, ℕ, zero, suc, ◌+◌, ◌-◌, ◌<◌, ◌≤◌, List, [], ◌∷◌, ◌++◌, length}
use Rattle.std.proofs.Common.{get_or, set, map, replicate, length-append, option_to_list, Option}
use Rattle.std.proofs.Common.{Some, None, refl, sym, ap, ◌∙◌, subst, arith, add-one}
use Rattle.std.proofs.lemmas.List.{length-map, length-replicate}
use Rattle.ol_net.specs.declared.parts.Kind.{Kind}
use Rattle.ol_net.specs.declared.parts.Kind.TheVariants as kind
use Rattle.ol_net.specs.Parts.{arity}
use Rattle.ol_context.specs.Contexts.{Level, empty, o, star, pair, Context, levels, cons, tail}
use Rattle.ol_context.specs.Contexts.{at_level, marked, mark, packed, up}
use Rattle.ol_context.specs.Paths.{Crosses, inward, outward}
use Rattle.ol_context.specs.Shapes.{value, context_of}
use Rattle.ol_context.specs.Crossings.{HasFallen}
use Rattle.ol_context.specs.Asked.{os}
use Rattle.ol_context.specs.Open.{wrapped, filled, reading}
use Rattle.ol_context.specs.Leaves.{NoMove, Moves, HasMoved, level_past}
use Rattle.ol_context.specs.declared.leaf.Fate.{Fate}
use Rattle.ol_context.specs.declared.leaf.Fate.TheVariants.{Stays, Grows, Goes}
use Rattle.ol_context.specs.declared.leaf.Around.{Around}
use Rattle.ol_context.specs.declared.leaf.Around.TheVariants.{O, Star, First, Second}
use Rattle.ol_context.proofs.Crossings.{no_crossing}
use Rattle.ol_context.proofs.LevelLists.{after, at_level_same}
use Rattle.ol_context.proofs.ValueLists.{set_is, pad_is}
use Rattle.ol_context.proofs.Leaves.{filled_push, marked_there, unpacked_first, unpacked_second}
use Rattle.ol_context.proofs.Leaves.{packed_first, packed_second, no_mark, no_put, no_pack}
use Rattle.ol_context.proofs.Leaves.{fallen_before, from_before, fallen_beyond, from_beyond}

-- lists of parts
pub popped : (ps qs : List Around) (r : Option Around) (m n : ℕ) (x q : Around) →
    ps ≡ qs ++ option_to_list r → r ≡ Some (get_or ps m x) → m ≡ n → x ≡ get_or ps n x → x ≡ q → ps ≡ qs ++ q ∷ []
popped ps qs r m n x q i v e a b = i
    ∙ ap (λ (r : Option Around). qs ++ option_to_list r) (v ∙ ap (λ m. Some (get_or ps m x)) e ∙ ap Some (sym a ∙ b))

last_at : (ps : List Around) (n : ℕ) (q : Around) → n + 1 ≡ length ps → q ≡ get_or ps n q →
    (qs : List Around) × (ps ≡ qs ++ q ∷ [])
last_at [] n q b e = absurd (omega arith)
last_at (p ∷ []) zero q b e = ([], ap (λ (p : Around). p ∷ []) (sym e))
last_at (p ∷ (p' ∷ ps)) zero q b e = absurd (omega arith)
last_at (p ∷ ps) (suc n) q b e = let t = last_at ps n q (omega arith) e in
    (p ∷ t.0, ap (λ (r : List Around). p ∷ r) t.1)

pub last_is : (ps : List Around) (n : ℕ) (x q : Around) → n + 1 ≡ length ps → x ≡ get_or ps n x →
    x ≡ q → (qs : List Around) × (ps ≡ qs ++ q ∷ [])
last_is ps n x q l a b = let t = last_at ps n x l a in (t.0, t.1 ∙ ap (λ (q : Around). t.0 ++ q ∷ []) b)

one_more : (p : Around) (ps : List Around) →
    (q : Around) × (qs : List Around) × (ps ≡ qs ++ q ∷ []) →
    (q : Around) × (qs : List Around) × (p ∷ ps ≡ qs ++ q ∷ [])
one_more p ps t = (t.0, p ∷ t.1, ap (λ (r : List Around). p ∷ r) t.2)

some_last : (ps : List Around) (n : ℕ) → n + 1 ≡ length ps → (q : Around) × (qs : List Around) × (ps ≡ qs ++ q ∷ [])
some_last [] n e = absurd (omega arith)
some_last (p ∷ []) n e = (p, [], refl)
some_last (p ∷ (p' ∷ ps)) n e = one_more p (p' ∷ ps) (some_last (p' ∷ ps) (n - 1) (omega arith))

none_round : (vs : List Level) (ps : List Around) (v : Level) → length ps ≡ 0 → filled vs ps v ≡ v
none_round vs [] v e = refl
none_round vs (p ∷ ps) v e = absurd (omega arith)

-- marks, packs and empties are apart
pub marked_empty : (s : ℕ) (v : Level) → marked s v ≡ empty → ⊥
marked_empty zero v e = absurd (cc)
marked_empty (suc s) v e = absurd (cc)

pub marked_pair : (s : ℕ) (v x y : Level) → marked s v ≡ pair x y → ⊥
marked_pair zero v x y e = absurd (cc)
marked_pair (suc s) v x y e = absurd (cc)

pub pair_o : (x y v : Level) → pair x y ≡ o v → ⊥
pair_o x y v e = absurd (cc)

pub pair_star : (x y v : Level) → pair x y ≡ star v → ⊥
pair_star x y v e = absurd (cc)

pair_os : (x y : Level) (n : ℕ) → pair x y ≡ os n empty → ⊥
pair_os x y zero e = absurd (cc)
pair_os x y (suc n) e = pair_o x y (os n empty) e

empty_wrapped : (vs : List Level) (q : Around) (v : Level) → empty ≡ wrapped vs q v → ⊥
empty_wrapped vs O v e = absurd (cc)
empty_wrapped vs Star v e = absurd (cc)
empty_wrapped vs (First b) v e = absurd (cc)
empty_wrapped vs (Second a) v e = absurd (cc)

empty_o : (v : Level) → empty ≡ o v → ⊥
empty_o v e = absurd (cc)

-- at the level of the leaf, from slot 0
module _ (vs : List Level) (ns : List ℕ) (p : ℕ) (ps : List Around) where
  pub grows : length ps ≡ 0 → Moves kind.Fan p 0 (reading vs ns (Some (p, ps)))
      (reading vs ns (Some (p, ps))) (context_of vs ns) 1 Grows
  grows z = (
    λ v. outward {s = 0} (omega arith) (marked_there p 0 (filled vs ps v) (context_of vs ns)
        ∙ ap (λ w. at_level p (cons w) (context_of vs ns))
        (ap o (none_round vs ps v z) ∙ sym (none_round vs ps (o v) z))),
    no_mark p (filled vs ps empty) (context_of vs ns) (λ s v e. marked_empty s v (e ∙ none_round vs ps empty z)),
  )

  pub unmarked : (qs : List Around) (q : Around) (s : ℕ) → s < 2 → ps ≡ qs ++ q ∷ [] →
      ((w : Level) → wrapped vs q w ≡ marked s w) → (v : Level) →
      Crosses kind.Fan p 0 (reading vs ns (Some (p, ps)) v) (suc s) (reading vs ns (Some (p, qs)) v)
  unmarked qs q s b e h v =
      outward {s = s} b (marked_there p s (filled vs qs v) (context_of vs ns)
      ∙ ap (λ w. at_level p (cons w) (context_of vs ns)) (sym (filled_push vs qs ps q v e ∙ h (filled vs qs v))))

  pub not_unmarked : (qs : List Around) (q : Around) → ps ≡ qs ++ q ∷ [] →
      ((w : Level) (s : ℕ) (v : Level) → marked s v ≡ wrapped vs q w → ⊥) →
      NoMove kind.Fan p 0 (reading vs ns (Some (p, ps)))
  not_unmarked qs q e h n = no_mark p (filled vs ps (os n empty)) (context_of vs ns)
      (λ s v i. h (filled vs qs (os n empty)) s v (i ∙ filled_push vs qs ps q (os n empty) e))

  pub goes : length ps ≡ 0 → Moves kind.Croissant p 0 (reading vs ns (Some (p, ps)))
      (reading vs ns (Some (p, ps))) (context_of vs ns) 1 Goes
  goes z = (
    outward {s = 0} (omega arith) (ap (λ w. at_level p (cons w) (context_of vs ns)) (sym (none_round vs ps empty z))),
    λ v. no_put p (filled vs ps (o v)) (context_of vs ns) (λ e. empty_o v (e ∙ none_round vs ps (o v) z)),
  )

  pub not_gone : (length ps ≡ 0 → ⊥) → NoMove kind.Croissant p 0 (reading vs ns (Some (p, ps)))
  not_gone z n =
      let t = some_last ps (length ps - 1) (omega arith) in
      no_put p (filled vs ps (os n empty)) (context_of vs ns)
      (λ e. empty_wrapped vs t.0 (filled vs t.1 (os n empty)) (e ∙ filled_push vs t.1 ps t.0 (os n empty) t.2))

  pub no_unpack : length ps ≡ 0 → NoMove kind.Bracket p 0 (reading vs ns (Some (p, ps)))
  no_unpack z n = no_pack p (filled vs ps (os n empty)) (context_of vs ns)
      (λ x y e. pair_os x y n (e ∙ none_round vs ps (os n empty) z))

  pub not_unpacked : (qs : List Around) (q : Around) → ps ≡ qs ++ q ∷ [] →
      ((w x y : Level) → pair x y ≡ wrapped vs q w → ⊥) → NoMove kind.Bracket p 0 (reading vs ns (Some (p, ps)))
  not_unpacked qs q e h n = no_pack p (filled vs ps (os n empty)) (context_of vs ns)
      (λ x y i. h (filled vs qs (os n empty)) x y (i ∙ filled_push vs qs ps q (os n empty) e))

  pub unpacks_first : (qs : List Around) (b : ℕ) (ms : List ℕ) → ps ≡ qs ++ First b ∷ [] →
      context_of vs ms ≡ at_level p (cons (value vs b)) (context_of vs ns) → (v : Level) →
      Crosses kind.Bracket p 0 (reading vs ns (Some (p, ps)) v) 1 (reading vs ms (Some (p + 1, qs)) v)
  unpacks_first qs b ms e m v =
      outward {s = 0} (omega arith)
      (ap (λ c. at_level p packed (at_level (p + 1) (cons (filled vs qs v)) c)) m
      ∙ unpacked_first p (filled vs qs v) (value vs b) (context_of vs ns)
      ∙ ap (λ w. at_level p (cons w) (context_of vs ns)) (sym (filled_push vs qs ps (First b) v e)))

  pub unpacks_second : (qs : List Around) (a : ℕ) (ms : List ℕ) → ps ≡ qs ++ Second a ∷ [] →
      context_of vs ms ≡ at_level p (cons (value vs a)) (context_of vs ns) → (v : Level) →
      Crosses kind.Bracket p 0 (reading vs ns (Some (p, ps)) v) 1 (reading vs ms (Some (p, qs)) v)
  unpacks_second qs a ms e m v =
      outward {s = 0} (omega arith)
      (ap (λ c. at_level p packed (at_level p (cons (filled vs qs v)) c)) m
      ∙ unpacked_second p (filled vs qs v) (value vs a) (context_of vs ns)
      ∙ ap (λ w. at_level p (cons w) (context_of vs ns)) (sym (filled_push vs qs ps (Second a) v e)))

  -- towards slot 0
  pub marks : (qs : List Around) (q : Around) (i s p' : ℕ) → i ≡ p → p' ≡ p → qs ≡ ps ++ q ∷ [] →
      ((w : Level) → wrapped vs q w ≡ marked s w) → (v : Level) →
      reading vs ns (Some (p', qs)) v ≡ at_level i (mark s) (reading vs ns (Some (p, ps)) v)
  marks qs q i s p' j k e h v =
      ap (λ r. at_level r (cons (filled vs qs v)) (context_of vs ns)) k
      ∙ ap (λ w. at_level p (cons w) (context_of vs ns)) (filled_push vs ps qs q v e ∙ h (filled vs ps v))
      ∙ sym (marked_there p s (filled vs ps v) (context_of vs ns))
      ∙ ap (λ r. at_level r (mark s) (reading vs ns (Some (p, ps)) v)) (sym j)

  pub packs_second : (qs : List Around) (a i p' : ℕ) (ms : List ℕ) → i ≡ p → p' ≡ p →
      qs ≡ ps ++ Second a ∷ [] → value vs a ≡ context_of vs ns i →
      context_of vs ms ≡ at_level i tail (context_of vs ns) → (v : Level) →
      reading vs ms (Some (p', qs)) v ≡ at_level i packed (reading vs ns (Some (p, ps)) v)
  packs_second qs a i p' ms j k e l m v =
      let c = context_of vs ns in
      ap (λ r. at_level r (cons (filled vs qs v)) (context_of vs ms)) k
      ∙ ap (λ w. at_level p (cons w) (context_of vs ms))
      (filled_push vs ps qs (Second a) v e ∙ ap (λ w. pair w (filled vs ps v)) (l ∙ ap c j))
      ∙ ap (at_level p (cons (pair (c p) (filled vs ps v)))) (m ∙ ap (λ r. at_level r tail c) j)
      ∙ sym (packed_second p (filled vs ps v) c)
      ∙ ap (λ r. at_level r packed (reading vs ns (Some (p, ps)) v)) (sym j)

  pub packs_first : (qs : List Around) (b i : ℕ) (ms : List ℕ) → i + 1 ≡ p →
      qs ≡ ps ++ First b ∷ [] → value vs b ≡ context_of vs ns i →
      context_of vs ms ≡ at_level i tail (context_of vs ns) → (v : Level) →
      reading vs ms (Some (i, qs)) v ≡ at_level i packed (reading vs ns (Some (p, ps)) v)
  packs_first qs b i ms j e l m v =
      let c = context_of vs ns in
      ap (λ w. at_level i (cons w) (context_of vs ms))
      (filled_push vs ps qs (First b) v e ∙ ap (pair (filled vs ps v)) l)
      ∙ ap (at_level i (cons (pair (filled vs ps v) (c i)))) m
      ∙ sym (packed_first i (filled vs ps v) c)
      ∙ ap (λ r. at_level i packed (at_level r (cons (filled vs ps v)) c)) j

-- from slot 0, a node at an earlier level
fallen_fan : (k : Kind) → (up k ≡ up kind.Fan) → (i s p j : ℕ) → p ≡ i + suc j →
    (ps : List Around) (vs : List Level) (ns ms : List ℕ) →
    up k i s (context_of vs ms) ≡ context_of vs ns → (v : Level) →
    up k i s (reading vs ms (Some (p, ps)) v) ≡ reading vs ns (Some (p, ps)) v
fallen_fan k u i s p j e ps vs ns ms h v =
    ap (λ (f : ℕ → ℕ → Context → Context). f i s (reading vs ms (Some (p, ps)) v)) u
    ∙ fallen_before kind.Fan tt s i j p p e e ps vs ns ms
    (ap (λ (f : ℕ → ℕ → Context → Context). f i s (context_of vs ms)) (sym u) ∙ h) v

pub moves_before : (k : Kind) (i s p : ℕ) → i < p →
    (ps : List Around) (vs : List Level) (ns ms : List ℕ) → s < arity k →
    up k i s (context_of vs ms) ≡ context_of vs ns → (v : Level) →
    Crosses k i 0 (reading vs ns (Some (p, ps)) v) (suc s) (reading vs ms (Some (level_past k p, ps)) v)
moves_before kind.Lam i s p b ps vs ns ms l e v = let q : p ≡ i + suc (p - suc i) = omega arith in
    outward l (fallen_fan kind.Lam refl i s p (p - suc i) q ps vs ns ms e v)
moves_before kind.App i s p b ps vs ns ms l e v = let q : p ≡ i + suc (p - suc i) = omega arith in
    outward l (fallen_fan kind.App refl i s p (p - suc i) q ps vs ns ms e v)
moves_before kind.Fan i s p b ps vs ns ms l e v = let q : p ≡ i + suc (p - suc i) = omega arith in
    outward l (fallen_fan kind.Fan refl i s p (p - suc i) q ps vs ns ms e v)
moves_before kind.Croissant i s p b ps vs ns ms l e v =
    let q : p ≡ i + suc (p - suc i) = omega arith in
    let r : p - 1 ≡ i + (p - suc i) = omega arith in
    outward l (fallen_before kind.Croissant tt s i (p - suc i) (p - 1) p r q ps vs ns ms e v)
moves_before kind.Bracket i s p b ps vs ns ms l e v =
    let q : p ≡ i + suc (p - suc i) = omega arith in
    let r : p + 1 ≡ i + suc (suc (p - suc i)) = omega arith in
    outward l (fallen_before kind.Bracket tt s i (p - suc i) (p + 1) p r q ps vs ns ms e v)
moves_before kind.Eraser i s p b ps vs ns ms l e v = absurd (omega arith)

-- where a crossing is defined with the leaf, it is with the other levels alone
pub comes_before : (k : Kind) (i s p : ℕ) → i < p →
    (ps : List Around) (vs : List Level) (ns : List ℕ) → s < arity k → (v : Level) (d : Context) →
    up k i s d ≡ reading vs ns (Some (p, ps)) v → (b : Context) × (up k i s b ≡ context_of vs ns)
comes_before kind.Lam i s p b ps vs ns l v d e = let q : p ≡ i + suc (p - suc i) = omega arith in
    from_before kind.Fan tt s i (p - suc i) p p q q ps vs ns v d e
comes_before kind.App i s p b ps vs ns l v d e = let q : p ≡ i + suc (p - suc i) = omega arith in
    from_before kind.Fan tt s i (p - suc i) p p q q ps vs ns v d e
comes_before kind.Fan i s p b ps vs ns l v d e = let q : p ≡ i + suc (p - suc i) = omega arith in
    from_before kind.Fan tt s i (p - suc i) p p q q ps vs ns v d e
comes_before kind.Croissant i s p b ps vs ns l v d e =
    let q : p ≡ i + suc (p - suc i) = omega arith in
    let r : p - 1 ≡ i + (p - suc i) = omega arith in
    from_before kind.Croissant tt s i (p - suc i) (p - 1) p r q ps vs ns v d e
comes_before kind.Bracket i s p b ps vs ns l v d e =
    let q : p ≡ i + suc (p - suc i) = omega arith in
    let r : p + 1 ≡ i + suc (suc (p - suc i)) = omega arith in
    from_before kind.Bracket tt s i (p - suc i) (p + 1) p r q ps vs ns v d e
comes_before kind.Eraser i s p b ps vs ns l v d e = absurd (omega arith)

pub no_move_before : (k : Kind) (i p : ℕ) → i < p →
    (ps : List Around) (vs : List Level) (ns ms : List ℕ) → HasFallen k i vs ns ms None →
    NoMove k i 0 (reading vs ns (Some (p, ps)))
no_move_before k i p b ps vs ns ms h n =
    no_crossing k i (reading vs ns (Some (p, ps)) (os n empty))
    (λ s d l e. let t = comes_before k i s p b ps vs ns l (os n empty) d e in h.1 s t.0 l t.1)

-- a node at a later level
pub moves_beyond : (k : Kind) (i s p : ℕ) → p < i →
    (ps : List Around) (vs : List Level) (ns ms : List ℕ) → s < arity k →
    up k (i - 1) s (context_of vs ms) ≡ context_of vs ns → (v : Level) →
    Crosses k i 0 (reading vs ns (Some (p, ps)) v) (suc s) (reading vs ms (Some (p, ps)) v)
moves_beyond k i s p b ps vs ns ms l e v =
    let q : i ≡ p + suc (i - suc p) = omega arith in
    let r : i - 1 ≡ p + (i - suc p) = omega arith in
    outward l (fallen_beyond k s i (i - suc p) p q r ps vs ns ms e v)

pub no_move_beyond : (k : Kind) (i p : ℕ) → p < i →
    (ps : List Around) (vs : List Level) (ns ms : List ℕ) → HasFallen k (i - 1) vs ns ms None →
    NoMove k i 0 (reading vs ns (Some (p, ps)))
no_move_beyond k i p b ps vs ns ms h n =
    let q : i ≡ p + suc (i - suc p) = omega arith in
    let r : i - 1 ≡ p + (i - suc p) = omega arith in
    no_crossing k i (reading vs ns (Some (p, ps)) (os n empty))
    (λ s d l e. h.1 s (at_level p tail d) l (from_beyond k s i (i - suc p) p q r ps vs ns (os n empty) d e))

-- kinds whose crossings are the same
pub moved_as : (k l : Kind) (i : ℕ) (F G : Level → Context) (c : Context) (r : Option (ℕ × Fate)) →
    ((t : ℕ) (d e : Context) → Crosses k i 0 d t e → Crosses l i 0 d t e) →
    ((t : ℕ) (d e : Context) → Crosses l i 0 d t e → Crosses k i 0 d t e) →
    HasMoved k i 0 F G c r → HasMoved l i 0 F G c r
moved_as k l i F G c None to from h = λ n t d y. h n t d (from t (F (os n empty)) d y)
moved_as k l i F G c (Some (t, Stays)) to from h = λ v. to t (F v) (G v) (h v)
moved_as k l i F G c (Some (t, Grows)) to from h = (
  λ v. to t (F (o v)) (G v) (h.0 v),
  λ u d y. h.1 u d (from u (F empty) d y),
)
moved_as k l i F G c (Some (t, Goes)) to from h = (to t (F empty) c h.0, λ v u d y. h.1 v u d (from u (F (o v)) d y))

lam_fan : (i s t : ℕ) (d e : Context) → Crosses kind.Lam i s d t e → Crosses kind.Fan i s d t e
lam_fan i s t d e (inward b h) = inward b h
lam_fan i s t d e (outward b h) = outward b h

fan_lam : (i s t : ℕ) (d e : Context) → Crosses kind.Fan i s d t e → Crosses kind.Lam i s d t e
fan_lam i s t d e (inward b h) = inward b h
fan_lam i s t d e (outward b h) = outward b h

app_fan : (i s t : ℕ) (d e : Context) → Crosses kind.App i s d t e → Crosses kind.Fan i s d t e
app_fan i s t d e (inward b h) = inward b h
app_fan i s t d e (outward b h) = outward b h

fan_app : (i s t : ℕ) (d e : Context) → Crosses kind.Fan i s d t e → Crosses kind.App i s d t e
fan_app i s t d e (inward b h) = inward b h
fan_app i s t d e (outward b h) = outward b h

pub moved_lam : (i : ℕ) (F G : Level → Context) (c : Context) (r : Option (ℕ × Fate)) →
    HasMoved kind.Fan i 0 F G c r → HasMoved kind.Lam i 0 F G c r
moved_lam i F G c r h = moved_as kind.Fan kind.Lam i F G c r (fan_lam i 0) (lam_fan i 0) h

pub moved_app : (i : ℕ) (F G : Level → Context) (c : Context) (r : Option (ℕ × Fate)) →
    HasMoved kind.Fan i 0 F G c r → HasMoved kind.App i 0 F G c r
moved_app i F G c r h = moved_as kind.Fan kind.App i F G c r (fan_app i 0) (app_fan i 0) h

pub no_eraser : (i : ℕ) (F : Level → Context) → NoMove kind.Eraser i 0 F
no_eraser i F n t d (outward b h) = absurd (omega arith)

-- a level put in past the list
past_after : (ls : List Level) (i : ℕ) → length ls ≤ i → after i (levels ls) ≡ levels []
past_after [] zero b = refl
past_after [] (suc i) b = past_after [] i (omega arith)
past_after (v ∷ ls) zero b = absurd (omega arith)
past_after (v ∷ ls) (suc i) b = past_after ls i (omega arith)

pub put_past : (vs : List Level) (ns : List ℕ) (i v d : ℕ) → length ns ≤ i → value vs d ≡ empty →
    context_of vs (set (ns ++ replicate (i + 1 - length ns) d) i v) ≡ at_level i (cons (value vs v)) (context_of vs ns)
put_past vs ns i v d b e =
    let ms = ns ++ replicate (i + 1 - length ns) d in
    let l = length-append ns (replicate (i + 1 - length ns) d) in
    let r = length-replicate (i + 1 - length ns) d in
    let k = length-map ns (value vs) in
    let a = past_after (map (value vs) ns) i (omega arith) in
    set_is vs ms i v (omega arith)
    ∙ ap (at_level i (λ d. cons (value vs v) (tail d))) (pad_is vs ns (i + 1 - length ns) d e)
    ∙ at_level_same i (λ d. cons (value vs v) (tail d)) (cons (value vs v)) (context_of vs ns)
    (ap (λ (c : Context). cons (value vs v) (tail c)) a ∙ ap (cons (value vs v)) (sym a))

pub marked_suc : (s : ℕ) (w : Level) → (s ≡ 0 → ⊥) → star w ≡ marked s w
marked_suc zero w h = absurd (h refl)
marked_suc (suc s) w h = refl

pub moves_before_by : (k : Kind) (i s p p' : ℕ) → i < p → p' ≡ level_past k p →
    (ps : List Around) (vs : List Level) (ns ms : List ℕ) → HasFallen k i vs ns ms (Some s) → (v : Level) →
    Crosses k i 0 (reading vs ns (Some (p, ps)) v) (s + 1) (reading vs ms (Some (p', ps)) v)
moves_before_by k i s p p' b e ps vs ns ms h v =
    subst (λ t. Crosses k i 0 (reading vs ns (Some (p, ps)) v) t (reading vs ms (Some (p', ps)) v)) (sym (add-one s))
    (subst (λ q. Crosses k i 0 (reading vs ns (Some (p, ps)) v) (suc s)
    (reading vs ms (Some (q, ps)) v)) (sym e) (moves_before k i s p b ps vs ns ms h.0 h.1.is v))

pub moves_beyond_by : (k : Kind) (i s p : ℕ) → p < i →
    (ps : List Around) (vs : List Level) (ns ms : List ℕ) → HasFallen k (i - 1) vs ns ms (Some s) → (v : Level) →
    Crosses k i 0 (reading vs ns (Some (p, ps)) v) (s + 1) (reading vs ms (Some (p, ps)) v)
moves_beyond_by k i s p b ps vs ns ms h v =
    subst (λ t. Crosses k i 0 (reading vs ns (Some (p, ps)) v) t (reading vs ms (Some (p, ps)) v))
    (sym (add-one s)) (moves_beyond k i s p b ps vs ns ms h.0 h.1.is v)
