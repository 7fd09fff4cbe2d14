-- What is read along a row is its word, sign by sign.
use Rattle.std.proofs.Common.{◌≡◌, ℕ, Bool, List, [], ◌∷◌, ◌++◌, refl, sym, ap, ◌∙◌, subst}
use Rattle.std.proofs.lemmas.List.{append_assoc}
use Rattle.ol_net.specs.Nets.{NamedNet}
use Rattle.ol_law_optimality.specs.Labels.{Label}
use Rattle.ol_law_optimality.specs.Routes.{Crossing, rise, fall}
use Rattle.ol_law_optimality.specs.Words.{turned, IsWire, at_binder, through, Reads, ends, body, argument}
use Rattle.ol_law_optimality.specs.Signs.{Sign, letter_of, begins_over, ends_over, begins_under, ends_under, Signs}
use Rattle.ol_law_optimality.specs.Signs.{onward, backward, reversed, signs_of, Signed, nothing, shared_up, shared_down}
use Rattle.ol_law_optimality.specs.Signs.{to_function, from_function, to_body, from_body, from_variable, to_variable}
use Rattle.ol_law_optimality.specs.Signs.{to_argument, from_argument, WordsAreSigned}

module _ {A : Type 0} (N : NamedNet A) (letter : A → ℕ → ℕ) where
  both : {v w : List (Crossing A)} {a b : Signs} → Signed N letter v a → Signed N letter w b →
      Signed N letter (v ++ w) (a ++ b)
  both nothing t = t
  both (shared_up k h f g s) t = shared_up k h f g (both s t)
  both (shared_down k h f g s) t = shared_down k h f g (both s t)
  both (to_function h s) t = to_function h (both s t)
  both (from_function h s) t = from_function h (both s t)
  both (to_body h s) t = to_body h (both s t)
  both (from_body h s) t = from_body h (both s t)
  both (from_variable h s) t = from_variable h (both s t)
  both (to_variable h s) t = to_variable h (both s t)
  both (to_argument h s) t = to_argument h (both s t)
  both (from_argument h s) t = from_argument h (both s t)

  last_two : {w : List (Crossing A)} (a b : Bool × Sign) (bs : Signs) →
      Signed N letter w (bs ++ (b ∷ a ∷ [])) → Signed N letter w ((bs ++ b ∷ []) ++ a ∷ [])
  last_two {w} a b bs s = subst (Signed N letter w) (sym (append_assoc bs (b ∷ []) (a ∷ []))) s

  last_three : {w : List (Crossing A)} (a b d : Bool × Sign) (bs : Signs) →
      Signed N letter w (bs ++ (d ∷ b ∷ a ∷ [])) → Signed N letter w (((bs ++ d ∷ []) ++ b ∷ []) ++ a ∷ [])
  last_three {w} a b d bs s =
      subst (Signed N letter w) (sym (append_assoc (bs ++ d ∷ []) (b ∷ []) (a ∷ [])
      ∙ append_assoc bs (d ∷ []) (b ∷ a ∷ []))) s

  no_more : {v : List (Crossing A)} (bs : Signs) → Signed N letter v (bs ++ []) → Signed N letter v bs
  no_more {v} bs s = subst (Signed N letter v) (append_nil bs) s
    where
      append_nil : (bs : Signs) → bs ++ [] ≡ bs
      append_nil [] = refl
      append_nil (a ∷ bs) = ap (λ bs. a ∷ bs) (append_nil bs)

  back : {v : List (Crossing A)} {a : Signs} → Signed N letter v a → Signed N letter (turned v) (reversed a)
  back nothing = nothing
  back (shared_up {a = a} k h f g s) = no_more (reversed a) (both (back s) (shared_down k h f g nothing))
  back (shared_down {a = a} k h f g s) = no_more (reversed a) (both (back s) (shared_up k h f g nothing))
  back (to_function {y = y} {a = a} h s) = last_two (backward begins_over)
      (backward (letter_of (letter y 0))) (reversed a) (both (back s) (from_function h nothing))
  back (from_function {y = y} {a = a} h s) = last_two (onward (letter_of (letter y 0)))
      (onward begins_over) (reversed a) (both (back s) (to_function h nothing))
  back (to_body {z = z} {a = a} h s) = last_two (backward ends_over)
      (backward (letter_of (letter z 1))) (reversed a) (both (back s) (from_body h nothing))
  back (from_body {z = z} {a = a} h s) = last_two (onward (letter_of (letter z 1)))
      (onward ends_over) (reversed a) (both (back s) (to_body h nothing))
  back (from_variable h s) = both (back s) (to_variable h nothing)
  back (to_variable h s) = both (back s) (from_variable h nothing)
  back (to_argument {y = y} {a = a} h s) =
      last_three (onward (letter_of (letter y 0))) (backward ends_under)
      (backward (letter_of (letter y 2))) (reversed a) (both (back s) (from_argument h nothing))
  back (from_argument {y = y} {a = a} h s) =
      last_three (onward (letter_of (letter y 2))) (onward ends_under)
      (backward (letter_of (letter y 0))) (reversed a) (both (back s) (to_argument h nothing))

  wired : {w v : List (Crossing A)} {a : Signs} → IsWire N w → Signed N letter v a → Signed N letter (w ++ v) a
  wired at_binder s = s
  wired (through k h f g w) s = shared_up k h f g (wired w s)

  signed : {r : List (Crossing A)} {u : Label} → Reads N letter r u → Signed N letter r (signs_of u)
  signed ends = nothing
  signed (body y z h k x t) = to_function h (both (signed x) (to_body k (signed t)))
  signed (argument y z {w = w} {s = s} {r = r} {v = v} {u = u} m h k x t) =
      let a = signs_of v in
      let b = signs_of u in
      let first : Bool × Sign = backward (letter_of (letter y 0)) in
      let rest : Signs = onward ends_under ∷ (onward (letter_of (letter y 2)) ∷ b) in
      wired m (subst (Signed N letter (rise z 1 ∷ (turned s ++ fall y 1 ∷ r)))
      (ap (λ a. onward begins_under ∷ a) (sym (append_assoc (reversed a) (first ∷ []) rest)))
      (from_variable k (both (back (signed x)) (to_argument h (signed t)))))

module _ {A : Type 0} where
  pub words_are_signed : WordsAreSigned A
  words_are_signed N letter r u x = signed N letter x
