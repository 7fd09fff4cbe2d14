-- Pieces of bytes, one after the other.
use Rattle.std.proofs.Common.{◌≡◌, ℕ, ◌≤◌, ◌+◌, ◌-◌, List, ◌++◌, length, take, drop, Option, None}
use Rattle.std.proofs.Common.{Some, refl, ap, sym, ◌∙◌, append_assoc, arith}
use Rattle.std.proofs.Math.Seq.{take-add}
use Rattle.std.proofs.lemmas.List.{take-append-drop}
use Rattle.std.proofs.lemmas.Grind.{common_steps}
use Rattle.ol_io.specs.Outside.{Appended, Consumed}

pub Appended-more : (a b c : Option (List ℕ)) (p q : List ℕ) → Appended a p b → Appended b q c → Appended a (p ++ q) c
Appended-more None None c p q h k = k
Appended-more None (Some y) c p q h k = absurd (cc)
Appended-more (Some x) None None p q h k = tt
Appended-more (Some x) None (Some z) p q h k = absurd (cc)
Appended-more (Some x) (Some y) None p q h k = tt
Appended-more (Some x) (Some y) (Some z) p q h k = k ∙ ap (λ l. l ++ q) h ∙ append_assoc x p q

-- the front of a text, and then what was taken of the rest, as `&text[i..]` has it
pub Appended-on : (a b c : Option (List ℕ)) (text : List ℕ) (i n : ℕ) → Appended a (take i text) b
    → Appended b (take n (take (length text - i) (drop i text))) c → Appended a (take (i + n) text) c
Appended-on a b c text i n h k =
    let rest : take (length text - i) (drop i text) ≡ drop i text = grind (arith, common_steps) in
    rw (take-add i n text) (Appended-more a b c (take i text) (take n (drop i text)) h (rw rest at k))

-- what a copy into the front of a buffer takes away
pub Consumed-by_copy : (left buf new : List ℕ) (n : ℕ) → n ≤ length left →
    new ≡ take n left ++ drop n buf → Consumed (Some left) (take n new) (Some (drop n left))
Consumed-by_copy left buf new n within e =
    let front : take n new ≡ take n left = rw e (grind (arith, common_steps)) in
    (drop n left, refl, sym (take-append-drop n left) ∙ ap (λ l. l ++ drop n left) (sym front))
