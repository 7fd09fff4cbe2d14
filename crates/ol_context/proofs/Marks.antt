-- Marks on lists of numbers, up and down.
use Rattle.std.proofs.Common.{◌≡◌, ℕ, zero, suc, ◌+◌, ◌-◌, ◌<◌, ◌≤◌, List, [], ◌∷◌, ◌++◌, length, get_or, set}
use Rattle.std.proofs.Common.{replicate, refl, sym, ap, ◌∙◌, arith, add-one, length-append}
use Rattle.std.specs.List.{insert, remove}
use Rattle.std.proofs.lemmas.List.{length-replicate}
use Rattle.ol_context.specs.Contexts.{Level, empty, pair, Context, cons, at_level, marked, mark, packed}
use Rattle.ol_context.specs.Shapes.{value, AreHeld, context_of, Extends, IsNumberOf}
use Rattle.ol_context.specs.Crossings.{Becomes, ComesFrom, NoneInto}
use Rattle.ol_context.proofs.Shapes.{context_more, held_more}
use Rattle.ol_context.proofs.LevelLists.{after, at_level_at}
use Rattle.ol_context.proofs.ValueLists.{held_set, held_append, held_replicate, held_insert, held_remove, level_is}
use Rattle.ol_context.proofs.ValueLists.{pad_is, past_level, past_put, insert_is, marked_up, marked_down, put_down}
use Rattle.ol_context.proofs.ValueLists.{packed_up, packed_down}

-- what stands at level i within the list
pub level_in : (vs : List Level) (ns : List ℕ) (i d : ℕ) → i < length ns → context_of vs ns i ≡ value vs (get_or ns i d)
level_in vs [] i d b = absurd (omega arith)
level_in vs (n ∷ ns) zero d b = refl
level_in vs (n ∷ ns) (suc i) d b = level_in vs ns i d (omega arith)

pub none_marked : (vs : List Level) (ns : List ℕ) (i : ℕ) →
    ((s : ℕ) (v : Level) → context_of vs ns i ≡ marked s v → ⊥) → NoneInto vs ns i mark
none_marked vs ns i h s d e = h s (after i d 0) (ap (λ (c : Context). c i) (sym e) ∙ at_level_at i (mark s) d)

pub empty_unmarked : (s : ℕ) (v : Level) → empty ≡ marked s v → ⊥
empty_unmarked zero v e = absurd (cc)
empty_unmarked (suc s) v e = absurd (cc)

pub pair_unmarked : (x y : Level) (s : ℕ) (v : Level) → pair x y ≡ marked s v → ⊥
pair_unmarked x y zero v e = absurd (cc)
pair_unmarked x y (suc s) v e = absurd (cc)

-- a list that reaches level i
pub record Reached (old new : List Level) (ns ms : List ℕ) (i : ℕ) : Type 0 where
  pub long : i < length ms
  pub held : AreHeld new ms
  pub is : context_of new ms ≡ context_of old ns

pub reached : (old new : List Level) (ns : List ℕ) (i n d : ℕ) → Extends old new → AreHeld old ns →
    value old d ≡ empty → d < length old → i < n → Reached old new ns (ns ++ replicate (n - length ns) d) i
reached old new ns i n d x h e b l =
    let k = held_append old ns (replicate (n - length ns) d) h (held_replicate old (n - length ns) d b) in
    let p = length-append ns (replicate (n - length ns) d) in
    let q = length-replicate (n - length ns) d in
    record {
      long = omega arith;
      held = held_more old new (ns ++ replicate (n - length ns) d) x k;
      is = context_more old new (ns ++ replicate (n - length ns) d) x k ∙ pad_is old ns (n - length ns) d e;
    }

pub mark_rises : (old new : List Level) (ns : List ℕ) (i s d w : ℕ) → Extends old new →
    AreHeld old ns → value old d ≡ empty → d < length old →
    IsNumberOf new w (marked s (value old (get_or ns i d))) →
    Becomes old new ns (set (ns ++ replicate (i + 1 - length ns) d) i w) (at_level i (mark s))
mark_rises old new ns i s d w x h e b n =
    let ms = ns ++ replicate (i + 1 - length ns) d in
    let r = reached old new ns i (i + 1) d x h e b (omega arith) in
    record {
      held = held_set new ms i w r.held n.held;
      is = marked_up new ms i s w r.long (n.is
          ∙ ap (marked s) (sym (level_is old ns i d e) ∙ ap (λ (c : Context). c i) (sym r.is)))
          ∙ ap (at_level i (mark s)) r.is;
    }

pub mark_falls : (vs : List Level) (ns : List ℕ) (i s n v : ℕ) → AreHeld vs ns → i < length ns →
    n ≡ get_or ns i n → v < length vs → value vs n ≡ marked s (value vs v) →
    ComesFrom vs ns (set ns i v) (at_level i (mark s))
mark_falls vs ns i s n v h b g l e = record {
  held = held_set vs ns i v h l;
  is = marked_down vs ns i s v b (level_in vs ns i n b ∙ ap (value vs) (sym g) ∙ e);
}

-- croissants
pub put_rises : (vs : List Level) (ns : List ℕ) (i d : ℕ) → AreHeld vs ns → i < length ns →
    d < length vs → value vs d ≡ empty → Becomes vs vs ns (insert ns i d) (at_level i (cons empty))
put_rises vs ns i d h b l e = record {
  held = held_insert vs ns i d h l;
  is = insert_is vs ns i d (omega arith) ∙ ap (λ v. at_level i (cons v) (context_of vs ns)) e;
}

pub put_past : (vs : List Level) (ns : List ℕ) (i : ℕ) → AreHeld vs ns → length ns ≤ i →
    Becomes vs vs ns ns (at_level i (cons empty))
put_past vs ns i h b = record { held = h; is = sym (past_put vs ns i b) }

pub put_falls : (vs : List Level) (ns : List ℕ) (i n : ℕ) → AreHeld vs ns → i < length ns →
    n ≡ get_or ns i n → value vs n ≡ empty → ComesFrom vs ns (remove ns i) (at_level i (cons empty))
put_falls vs ns i n h b g e = record {
  held = held_remove vs ns i h;
  is = put_down vs ns i b (level_in vs ns i n b ∙ ap (value vs) (sym g) ∙ e);
}

pub put_falls_past : (vs : List Level) (ns : List ℕ) (i : ℕ) → AreHeld vs ns → length ns ≤ i →
    ComesFrom vs ns ns (at_level i (cons empty))
put_falls_past vs ns i h b = record { held = h; is = past_put vs ns i b }

-- nothing gives a list whose level i is not what the change leaves there
pub none_put : (vs : List Level) (ns : List ℕ) (i n : ℕ) → i < length ns → n ≡ get_or ns i n →
    (value vs n ≡ empty → ⊥) → NoneInto vs ns i (λ s. cons empty)
none_put vs ns i n b g h s d e = h (ap (value vs) g ∙ sym (level_in vs ns i n b)
    ∙ ap (λ (c : Context). c i) (sym e) ∙ at_level_at i (cons empty) d)

pub none_packed : (vs : List Level) (ns : List ℕ) (i n : ℕ) → i < length ns → n ≡ get_or ns i n →
    ((x y : Level) → value vs n ≡ pair x y → ⊥) → NoneInto vs ns i (λ s. packed)
none_packed vs ns i n b g h s d e = h (after i d 1) (after i d 0)
    (ap (value vs) g ∙ sym (level_in vs ns i n b) ∙ ap (λ (c : Context). c i) (sym e) ∙ at_level_at i packed d)

pub none_packed_past : (vs : List Level) (ns : List ℕ) (i : ℕ) → length ns ≤ i → NoneInto vs ns i (λ s. packed)
none_packed_past vs ns i b s d e =
    let q : empty ≡ pair (after i d 1) (after i d 0) = sym (past_level vs ns i b)
    ∙ ap (λ (c : Context). c i) (sym e) ∙ at_level_at i packed d in
    cc

-- brackets
pub pack_rises : (old new : List Level) (ns : List ℕ) (i d w : ℕ) → Extends old new →
    AreHeld old ns → value old d ≡ empty → d < length old →
    IsNumberOf new w (pair (value old (get_or ns (i + 1) d)) (value old (get_or ns i d))) →
    Becomes old new ns (remove (set (ns ++ replicate (i + 2 - length ns) d) i w) (i + 1)) (at_level i packed)
pack_rises old new ns i d w x h e b n =
    let ms = ns ++ replicate (i + 2 - length ns) d in
    let r = reached old new ns (i + 1) (i + 2) d x h e b (omega arith) in
    let l : suc i < length ms = omega (arith, r.long) in
    let low : value old (get_or ns i d) ≡ context_of new ms i = sym (level_is old ns i d e)
    ∙ ap (λ (c : Context). c i) (sym r.is) in
    let high : value old (get_or ns (i + 1) d) ≡ context_of new ms (suc i) = sym
    (level_is old ns (i + 1) d e) ∙ ap (λ (c : Context). c (i + 1)) (sym r.is)
    ∙ ap (context_of new ms) (add-one i) in
    record {
      held = held_remove new (set ms i w) (i + 1) (held_set new ms i w r.held n.held);
      is = ap (λ m. context_of new (remove (set ms i w) m)) (add-one i)
          ∙ packed_up new ms i w l (n.is ∙ ap (λ v. pair v (value old (get_or ns i d))) high
          ∙ ap (pair (context_of new ms (suc i))) low) ∙ ap (at_level i packed) r.is;
    }

pub pack_falls : (vs : List Level) (ns : List ℕ) (i n x y : ℕ) → AreHeld vs ns → i < length ns →
    n ≡ get_or ns i n → x < length vs → y < length vs → value vs n ≡ pair (value vs x) (value vs y) →
    ComesFrom vs ns (set (insert ns (i + 1) x) i y) (at_level i packed)
pack_falls vs ns i n x y h b g l r e = record {
  held = held_set vs (insert ns (i + 1) x) i y (held_insert vs ns (i + 1) x h l) r;
  is = ap (λ m. at_level i packed (context_of vs (set (insert ns m x) i y))) (add-one i)
      ∙ packed_down vs ns i x y b (level_in vs ns i n b ∙ ap (value vs) (sym g) ∙ e);
}
