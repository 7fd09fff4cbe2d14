-- One deque: what was put into it is what was given from it and what waits in it.
use Rattle.std.specs.Prelude.{◌≡◌, ◌==◌, ℕ, ◌+◌, ◌-◌, ◌<◌, ◌⊎◌, if◌then◌else◌, List, [], ◌∷◌, ◌++◌, All}
use Rattle.ol_pool.specs.Weights.{weigh}
use Rattle.ol_pool.specs.declared.deques.Log.{Log}

-- an open deque, as one of its passes knows it: the bound of its cells, the pass's parts of the right to know the
-- whole, the cells that the pass put, and those that it was given
abbrev pub log : ℕ → ℕ → List ℕ → List ℕ → Log
log bound parts sent given = record { stage = 2; bound = bound; parts = parts; sent = sent; given = given }

-- a deque that is new; one in which its bound waits; an open one without a cell; and a pass that was taken back
abbrev pub untold : Log
untold = record { stage = 0; bound = 0; parts = 128; sent = []; given = [] }

abbrev pub told : ℕ → Log
told bound = record { stage = 1; bound = bound; parts = 128; sent = []; given = [] }

abbrev pub opened : ℕ → Log
opened bound = log bound 128 [] []

abbrev pub spent : Log
spent = record { stage = 3; bound = 0; parts = 0; sent = []; given = [] }

-- it put these cells too; it was given these too
abbrev pub puts : Log → List ℕ → Log
puts v cells = record v { sent = v.sent ++ cells }

abbrev pub gets : Log → List ℕ → Log
gets v cells = record v { given = v.given ++ cells }

-- it gave one part away; the pass that got it
abbrev pub lends : Log → Log
lends v = record v { parts = v.parts - 1 }

abbrev pub lent : ℕ → Log
lent bound = log bound 1 [] []

-- f of each pass, added up
abbrev pub total : (Log → ℕ) → List Log → ℕ
total f [] = 0
total f (view ∷ views) = f view + total f views

-- However cells are weighed, those that were put weigh as much as those that were given and those that wait.
-- With the weight that is 1 for one cell and else 0: each cell was given or waits as often as it was put.
abbrev pub Balanced : List ℕ → List Log → Type 0
Balanced waiting views =
    (h : ℕ → ℕ)
    → total (λ v. weigh h v.sent) views ≡ total (λ v. weigh h v.given) views + weigh h waiting

abbrev pub AllBelow : ℕ → List ℕ → Type 0
AllBelow bound cells = All (λ cell. cell < bound) cells

-- a pass of an open deque with this bound, or one that was taken back
abbrev pub Fits : ℕ → Log → Type 0
Fits bound v = (v ≡ spent) ⊎ ((0 < v.parts) × (v.stage ≡ 2) × (v.bound ≡ bound))

-- an open deque: all passes know one bound, which is above all cells that wait, and their parts are the whole
abbrev pub Runs : ℕ → List ℕ → List Log → Type 0
Runs bound waiting views =
    All (Fits bound) views × AllBelow bound waiting × (total (λ v. v.parts) views ≡ 128) × Balanced waiting views

-- the rule of a deque: it is new, or its bound waits in it, or it is open
abbrev pub Kept : List ℕ → List Log → Type 0
Kept waiting views =
    ((waiting ≡ []) × (views ≡ untold ∷ []))
    ⊎ (((bound : ℕ) × (waiting ≡ bound ∷ []) × (views ≡ told bound ∷ []))
    ⊎ ((bound : ℕ) × Runs bound waiting views))

-- how often a cell stands in a list
abbrev pub times : ℕ → List ℕ → ℕ
times cell cells = weigh (λ other. if other == cell then 1 else 0) cells

-- a pass of a deque in which its bound waits: no cell was put into it, and none was given
abbrev pub IsTold : Log → Type 0
IsTold v = (v.stage ≡ 1) × (v.sent ≡ []) × (v.given ≡ [])

-- Wherever such a rule holds of the cells that wait and of the passes: each cell waits or was given
-- to one of them just as often as
-- one of them put it. Else the bound of all cells waits, while the pool is made, and there is no cell yet.
abbrev pub NoCellIsLost : (List ℕ → List Log → Type 0) → Type 0
NoCellIsLost Holds =
    (waiting : List ℕ) (views : List Log) → Holds waiting views
    → All IsTold views
    ⊎ ((cell : ℕ) → total (λ v. times cell v.sent) views ≡ total (λ v. times cell v.given) views + times cell waiting)
