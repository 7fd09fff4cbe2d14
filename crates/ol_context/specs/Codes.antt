-- Private: level values as data that a struct may have as its value.
use Rattle.std.specs.Prelude.{◌≡◌, ℕ, zero, suc, List, [], ◌∷◌, refl}
use Rattle.std.proofs.Common.{ap, ◌∙◌}
use Rattle.std.specs.Coded.{Coded, code_by, coded_list, coded_ℕ}
use Rattle.ol_context.specs.Contexts.{Level, empty, o, star, pair}

-- a value's nodes, each after its parts, put before codes
abbrev pub written : Level → List ℕ → List ℕ
written empty cs = 0 ∷ cs
written (o v) cs = written v (1 ∷ cs)
written (star v) cs = written v (2 ∷ cs)
written (pair v w) cs = written v (written w (3 ∷ cs))

-- the values that codes leave on a stack
abbrev pub read : List ℕ → List Level → List Level
read [] st = st
read (zero ∷ cs) st = read cs (empty ∷ st)
read (suc zero ∷ cs) (v ∷ st) = read cs (o v ∷ st)
read (suc (suc zero) ∷ cs) (v ∷ st) = read cs (star v ∷ st)
read (suc (suc (suc n)) ∷ cs) (w ∷ (v ∷ st)) = read cs (pair v w ∷ st)
read (suc n ∷ cs) st = st

abbrev pub first : List Level → Level
first [] = empty
first (v ∷ vs) = v

pub read-written : (v : Level) (cs : List ℕ) (st : List Level) → read (written v cs) st ≡ read cs (v ∷ st)
read-written empty cs st = refl
read-written (o v) cs st = read-written v (1 ∷ cs) st
read-written (star v) cs st = read-written v (2 ∷ cs) st
read-written (pair v w) cs st = read-written v (written w (3 ∷ cs)) st ∙ read-written w (3 ∷ cs) (v ∷ st)

pub back : (v : Level) → first (read (written v []) []) ≡ v
back v = ap first (read-written v [] [])

abbrev pub level_code : Coded Level
level_code = code_by (List ℕ) (coded_list coded_ℕ) (λ v. written v []) (λ cs. first (read cs [])) back

abbrev pub levels_code : Coded (List Level)
levels_code = coded_list level_code
