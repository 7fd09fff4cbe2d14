-- Each cell that was put waits or was given, as often as it was put.
use Rattle.std.proofs.Common.{◌≡◌, ◌==◌, ℕ, ◌+◌, inl, inr, if◌then◌else◌, List, [], ◌∷◌, All, refl, sym, subst}
use Rattle.std.proofs.lemmas.List.Elements.{All-cons, All-nil}
use Rattle.ol_pool.specs.declared.deques.Log.{Log}
use Rattle.ol_pool.specs.Deques.{Kept, NoCellIsLost, total, times, untold, told, IsTold}

of_new : (waiting : List ℕ) (views : List Log) → waiting ≡ [] → views ≡ untold ∷ []
    → (cell : ℕ) → total (λ v. times cell v.sent) views ≡ total (λ v. times cell v.given) views + times cell waiting
of_new waiting views w v cell = rw (w, v) refl

is_told : (views : List Log) (bound : ℕ) → views ≡ told bound ∷ [] → All IsTold views
is_told views bound v = subst (λ (vs : List Log). All IsTold vs) (sym v)
    (All-cons IsTold (told bound) [] (refl, refl, refl) (All-nil IsTold))

pub none_lost : NoCellIsLost Kept
none_lost waiting views (inl (w, v)) = inr (of_new waiting views w v)
none_lost waiting views (inr (inl (bound, w, v))) = inl (is_told views bound v)
none_lost waiting views (inr (inr (bound, runs))) = inr (λ cell. runs.3 (λ other. if other == cell then 1 else 0))
