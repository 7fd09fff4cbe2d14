-- What changes of lists of numbers do to the contexts that they stand for.
use Rattle.std.proofs.Common.{◌≡◌, ℕ, zero, suc, ◌<◌, ◌≤◌, List, [], ◌∷◌, ◌++◌, length, get_or, set}
use Rattle.std.proofs.Common.{take, drop, map, replicate, refl, sym, ap, ◌∙◌, arith, length-set}
use Rattle.std.specs.List.{insert, remove}
use Rattle.std.proofs.lemmas.List.{length-map, map-append, map-set, get_or_past}
use Rattle.ol_context.specs.Contexts.{Level, empty, pair, Context, levels, cons, tail, at_level, marked, mark, packed}
use Rattle.ol_context.proofs.Contexts.{eta, cons_eta}
use Rattle.ol_context.specs.Shapes.{value, AreHeld, context_of}
use Rattle.ol_context.proofs.LevelLists.{after, after_first, at_level_same, at_level_id, at_level_two, at_level_next}
use Rattle.ol_context.proofs.LevelLists.{levels_at, levels_set, levels_insert, levels_remove, levels_pad, at_level_past}

-- what is held
pub held_set : (vs : List Level) (ns : List ℕ) (i w : ℕ) → AreHeld vs ns → w < length vs → AreHeld vs (set ns i w)
held_set vs [] i w h b = tt
held_set vs (n ∷ ns) zero w h b = (b, h.1)
held_set vs (n ∷ ns) (suc i) w h b = (h.0, held_set vs ns i w h.1 b)

pub held_append : (vs : List Level) (ns ms : List ℕ) → AreHeld vs ns → AreHeld vs ms → AreHeld vs (ns ++ ms)
held_append vs [] ms h k = k
held_append vs (n ∷ ns) ms h k = (h.0, held_append vs ns ms h.1 k)

pub held_replicate : (vs : List Level) (k w : ℕ) → w < length vs → AreHeld vs (replicate k w)
held_replicate vs zero w b = tt
held_replicate vs (suc k) w b = (b, held_replicate vs k w b)

pub held_take : (vs : List Level) (i : ℕ) (ns : List ℕ) → AreHeld vs ns → AreHeld vs (take i ns)
held_take vs zero ns h = tt
held_take vs (suc i) [] h = tt
held_take vs (suc i) (n ∷ ns) h = (h.0, held_take vs i ns h.1)

pub held_drop : (vs : List Level) (i : ℕ) (ns : List ℕ) → AreHeld vs ns → AreHeld vs (drop i ns)
held_drop vs zero ns h = h
held_drop vs (suc i) [] h = tt
held_drop vs (suc i) (n ∷ ns) h = held_drop vs i ns h.1

pub held_insert : (vs : List Level) (ns : List ℕ) (i w : ℕ) → AreHeld vs ns → w < length vs → AreHeld vs (insert ns i w)
held_insert vs ns i w h b = held_append vs (take i ns) (w ∷ drop i ns) (held_take vs i ns h) (b, held_drop vs i ns h)

pub held_remove : (vs : List Level) (ns : List ℕ) (i : ℕ) → AreHeld vs ns → AreHeld vs (remove ns i)
held_remove vs ns i h = held_append vs (take i ns) (drop (suc i) ns) (held_take vs i ns h) (held_drop vs (suc i) ns h)

pub held_in : (vs : List Level) (ns : List ℕ) (i d : ℕ) → AreHeld vs ns → i < length ns → get_or ns i d < length vs
held_in vs [] i d h b = absurd (omega arith)
held_in vs (n ∷ ns) zero d h b = h.0
held_in vs (n ∷ ns) (suc i) d h b = held_in vs ns i d h.1 (omega arith)

pub held_at : (vs : List Level) (ns : List ℕ) (i d : ℕ) → AreHeld vs ns → d < length vs → get_or ns i d < length vs
held_at vs [] i d h b = b
held_at vs (n ∷ ns) zero d h b = h.0
held_at vs (n ∷ ns) (suc i) d h b = held_at vs ns i d h.1 b

-- what level i is
pub level_is : (vs : List Level) (ns : List ℕ) (i d : ℕ) → value vs d ≡ empty →
    context_of vs ns i ≡ value vs (get_or ns i d)
level_is vs [] i d e = sym e
level_is vs (n ∷ ns) zero d e = refl
level_is vs (n ∷ ns) (suc i) d e = level_is vs ns i d e

map_replicate : (vs : List Level) (k d : ℕ) → value vs d ≡ empty → map (value vs) (replicate k d) ≡ replicate k empty
map_replicate vs zero d e = refl
map_replicate vs (suc k) d e = ap (λ v. v ∷ map (value vs) (replicate k d)) e
    ∙ ap (λ r. empty ∷ r) (map_replicate vs k d e)

pub pad_is : (vs : List Level) (ns : List ℕ) (k d : ℕ) → value vs d ≡ empty →
    context_of vs (ns ++ replicate k d) ≡ context_of vs ns
pad_is vs ns k d e = ap levels (map-append (value vs) ns (replicate k d)
    ∙ ap (λ r. map (value vs) ns ++ r) (map_replicate vs k d e)) ∙ levels_pad (map (value vs) ns) k

map_insert : (vs : List Level) (ns : List ℕ) (i w : ℕ) →
    map (value vs) (insert ns i w) ≡ insert (map (value vs) ns) i (value vs w)
map_insert vs ns zero w = refl
map_insert vs [] (suc i) w = refl
map_insert vs (n ∷ ns) (suc i) w = ap (λ r. value vs n ∷ r) (map_insert vs ns i w)

map_remove : (vs : List Level) (ns : List ℕ) (i : ℕ) → map (value vs) (remove ns i) ≡ remove (map (value vs) ns) i
map_remove vs [] zero = refl
map_remove vs (n ∷ ns) zero = refl
map_remove vs [] (suc i) = refl
map_remove vs (n ∷ ns) (suc i) = ap (λ r. value vs n ∷ r) (map_remove vs ns i)

pub set_is : (vs : List Level) (ns : List ℕ) (i w : ℕ) → i < length ns →
    context_of vs (set ns i w) ≡ at_level i (λ d. cons (value vs w) (tail d)) (context_of vs ns)
set_is vs ns i w b = let l = length-map ns (value vs) in
    ap levels (map-set (value vs) ns i w) ∙ levels_set (map (value vs) ns) i (value vs w) (omega arith)

pub insert_is : (vs : List Level) (ns : List ℕ) (i w : ℕ) → i ≤ length ns →
    context_of vs (insert ns i w) ≡ at_level i (cons (value vs w)) (context_of vs ns)
insert_is vs ns i w b = let l = length-map ns (value vs) in
    ap levels (map_insert vs ns i w) ∙ levels_insert (map (value vs) ns) i (value vs w) (omega arith)

pub remove_is : (vs : List Level) (ns : List ℕ) (i : ℕ) → i < length ns →
    context_of vs (remove ns i) ≡ at_level i tail (context_of vs ns)
remove_is vs ns i b = let l = length-map ns (value vs) in
    ap levels (map_remove vs ns i) ∙ levels_remove (map (value vs) ns) i (omega arith)

pub past_is : (vs : List Level) (ns : List ℕ) (i : ℕ) (f : Context → Context) → length ns ≤ i →
    f (levels []) ≡ levels [] → at_level i f (context_of vs ns) ≡ context_of vs ns
past_is vs ns i f b h = let l = length-map ns (value vs) in at_level_past (map (value vs) ns) i f (omega arith) h

pub past_level : (vs : List Level) (ns : List ℕ) (i : ℕ) → length ns ≤ i → context_of vs ns i ≡ empty
past_level vs ns i b = let l = length-map ns (value vs) in
    levels_at (map (value vs) ns) i ∙ get_or_past (map (value vs) ns) i empty (omega arith)

-- a mark
pub marked_up : (vs : List Level) (ns : List ℕ) (i s w : ℕ) → i < length ns →
    value vs w ≡ marked s (context_of vs ns i) → context_of vs (set ns i w) ≡ at_level i (mark s) (context_of vs ns)
marked_up vs ns i s w b e =
    let c = context_of vs ns in
    set_is vs ns i w b ∙ at_level_same i (λ d. cons (value vs w) (tail d)) (mark s) c
    (ap (λ v. cons v (tail (after i c))) (e ∙ ap (marked s) (sym (after_first i c))))

pub marked_down : (vs : List Level) (ns : List ℕ) (i s w : ℕ) → i < length ns →
    context_of vs ns i ≡ marked s (value vs w) → at_level i (mark s) (context_of vs (set ns i w)) ≡ context_of vs ns
marked_down vs ns i s w b e =
    let c = context_of vs ns in
    ap (at_level i (mark s)) (set_is vs ns i w b)
    ∙ at_level_two i (mark s) (λ d. cons (value vs w) (tail d)) c
    ∙ at_level_id i (λ d. mark s (cons (value vs w) (tail d))) c
    (cons_eta (marked s (value vs w)) (tail (after i c)) (after i c) (sym e ∙ sym (after_first i c)) refl)

-- a croissant
pub put_down : (vs : List Level) (ns : List ℕ) (i : ℕ) → i < length ns →
    context_of vs ns i ≡ empty → at_level i (cons empty) (context_of vs (remove ns i)) ≡ context_of vs ns
put_down vs ns i b e =
    let c = context_of vs ns in
    ap (at_level i (cons empty)) (remove_is vs ns i b)
    ∙ at_level_two i (cons empty) tail c
    ∙ at_level_id i (λ d. cons empty (tail d)) c
    (cons_eta empty (tail (after i c)) (after i c) (sym e ∙ sym (after_first i c)) refl)

pub past_put : (vs : List Level) (ns : List ℕ) (i : ℕ) → length ns ≤ i →
    at_level i (cons empty) (context_of vs ns) ≡ context_of vs ns
past_put vs ns i b = past_is vs ns i (cons empty) b (eta (levels []))

-- a bracket
after_second : (i : ℕ) (c : Context) → after i c 1 ≡ c (suc i)
after_second zero c = refl
after_second (suc i) c = after_second i (tail c)

pub packed_up : (vs : List Level) (ns : List ℕ) (i w : ℕ) → suc i < length ns →
    value vs w ≡ pair (context_of vs ns (suc i)) (context_of vs ns i) →
    context_of vs (remove (set ns i w) (suc i)) ≡ at_level i packed (context_of vs ns)
packed_up vs ns i w b e =
    let c = context_of vs ns in
    let l = length-set ns i w in
    remove_is vs (set ns i w) (suc i) (omega arith)
    ∙ ap (at_level (suc i) tail) (set_is vs ns i w (omega arith))
    ∙ at_level_next i tail tail (value vs w) c
    ∙ at_level_same i (λ d. cons (value vs w) (tail (tail d))) packed c
    (ap (λ v. cons v (tail (tail (after i c))))
    (e ∙ ap (λ v. pair v (c i)) (sym (after_second i c)) ∙ ap (pair (after i c 1)) (sym (after_first i c))))

pub packed_down : (vs : List Level) (ns : List ℕ) (i x y : ℕ) → i < length ns →
    context_of vs ns i ≡ pair (value vs x) (value vs y) →
    at_level i packed (context_of vs (set (insert ns (suc i) x) i y)) ≡ context_of vs ns
packed_down vs ns i x y b e =
    let c = context_of vs ns in
    ap (at_level i packed) (swapped ns i b
    ∙ insert_is vs (set ns i y) (suc i) x (let l = length-set ns i y in omega arith)
    ∙ ap (at_level (suc i) (cons (value vs x))) (set_is vs ns i y b)
    ∙ at_level_next i (cons (value vs x)) tail (value vs y) c)
    ∙ at_level_two i packed (λ d. cons (value vs y) (cons (value vs x) (tail d))) c
    ∙ at_level_id i (λ d. packed (cons (value vs y) (cons (value vs x) (tail d)))) c
    (cons_eta (pair (value vs x) (value vs y)) (tail (after i c)) (after i c) (sym e ∙ sym (after_first i c)) refl)
  where
    lists : (ns : List ℕ) (i : ℕ) → i < length ns → set (insert ns (suc i) x) i y ≡ insert (set ns i y) (suc i) x
    lists [] i b = absurd (omega arith)
    lists (n ∷ ns) zero b = refl
    lists (n ∷ ns) (suc i) b = ap (λ r. n ∷ r) (lists ns i (omega arith))

    swapped : (ns : List ℕ) (i : ℕ) → i < length ns →
        context_of vs (set (insert ns (suc i) x) i y) ≡ context_of vs (insert (set ns i y) (suc i) x)
    swapped ns i b = ap (context_of vs) (lists ns i b)
