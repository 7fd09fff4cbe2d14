-- Private: what a name that is begun hands over from here on.
use Rattle.std.specs.Prelude.{◌≡◌, ℕ, Bool, List, length, Option, Result, IfOk}
use Rattle.std.specs.declared.vec.Vec.{Vec}
use Rattle.std.specs.declared.alloc.Global.{Global}
use Rattle.ol_io.specs.Readings.{Reading, gave, closed, IsReadOf}

-- The last reading grows by these bytes of what was left, to its end or not; and they are answered, if any are.
pub record ReadsOn {E : Type 0} (left : Option (List ℕ)) (given : ℕ) (ended : Bool)
    (old new : List Reading) (result : Result (Vec ℕ Global) E) : Type 0 where
  pub bytes : List ℕ
  pub grown : new ≡ closed ended (gave bytes old)
  pub counted : length bytes ≡ given
  pub answered : IfOk result (λ v. v.items ≡ bytes)
  pub told : IsReadOf left ended bytes
