-- Bytes in two parts.
use Rattle.std.proofs.Common.{◌≡◌, ℕ, List, [], ◌∷◌, ◌++◌, Option, Some, None, option_and_then, refl, ◌∙◌}
use Rattle.ol_parse.specs.Reading.{Reading, byte_step, takes, read}

pub each_some : {A B : Type 0} (f g : A → Option B) (o : Option A) → ((x : A) → f x ≡ g x) →
    option_and_then f o ≡ option_and_then g o
each_some f g None h = refl
each_some f g (Some x) h = h x

pub and_then_twice : {A B C : Type 0} (f : A → Option B) (g : B → Option C) (o : Option A) →
    option_and_then (λ x. option_and_then g (f x)) o ≡ option_and_then g (option_and_then f o)
and_then_twice f g None = refl
and_then_twice f g (Some x) = refl

pub takes_both : (s : Reading) (a b : List ℕ) → takes s (a ++ b) ≡ option_and_then (λ s'. takes s' b) (read s a)
takes_both s [] b = refl
takes_both s (x ∷ a) b =
    each_some (λ s'. takes s' (a ++ b)) (λ s'. option_and_then (λ s'. takes s' b) (read s' a))
    (byte_step s x) (λ s'. takes_both s' a b)
    ∙ and_then_twice (λ s'. read s' a) (λ s'. takes s' b) (byte_step s x)

pub read_both : (s : Reading) (a b : List ℕ) → read s (a ++ b) ≡ option_and_then (λ s'. read s' b) (read s a)
read_both s [] b = refl
read_both s (x ∷ a) b =
    each_some (λ s'. read s' (a ++ b)) (λ s'. option_and_then (λ s'. read s' b) (read s' a))
    (byte_step s x) (λ s'. read_both s' a b)
    ∙ and_then_twice (λ s'. read s' a) (λ s'. read s' b) (byte_step s x)
