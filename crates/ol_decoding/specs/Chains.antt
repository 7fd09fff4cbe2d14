-- Private: the places of a Church numeral's tree, in a row.
use Rattle.std.specs.Prelude.{ℕ, zero, suc, ◌+◌, ◌==◌, ◌&&◌, Bool, false, if◌then◌else◌, List, [], ◌∷◌, length, Option, Some, None}
use Rattle.ol_readback.specs.declared.answers.HeadVar.{HeadVar}
use Rattle.ol_readback.specs.declared.answers.HeadVar.TheVariants as var
use Rattle.ol_readback.specs.declared.answers.ReadNode.{ReadNode}
use Rattle.ol_readback.specs.declared.answers.ReadNode.TheVariants as node

-- binder b of the first place
abbrev pub own : ℕ → HeadVar
own b = var.Bound 0 b

-- n places with the first binder, and then one with the second; the first of all has l binders
abbrev pub chain : ℕ → ℕ → List ReadNode
chain l zero = node.Head l (own 2) 0 ∷ []
chain l (suc n) = node.Head l (own 1) 1 ∷ chain 0 n

abbrev pub is_own : ℕ → HeadVar → Bool
is_own b (var.Bound i j) = (i == 0) && (j == b)
is_own b (var.Free q) = false

-- a place with so many abstractions, this binder of the first place, and so many arguments
abbrev pub is_place : ℕ → ℕ → ℕ → ReadNode → Bool
is_place l b a (node.Head k v c) = (k == l) && ((c == a) && is_own b v)
is_place l b a node.NoHead = false
is_place l b a node.Cut = false

abbrev pub some_if_last : List ReadNode → ℕ → Option ℕ
some_if_last [] count = Some count
some_if_last (m ∷ ms) count = None

-- how many places with the first binder there are, behind so many
abbrev pub numeral_from : ℕ → ℕ → List ReadNode → Option ℕ
numeral_from count l [] = None
numeral_from count l (m ∷ ms) = if is_place l 1 1 m then numeral_from (count + 1) 0 ms
    else if is_place l 2 0 m then some_if_last ms count else None

-- the number of a place that ends such a row
abbrev pub end_at : List ReadNode → ℕ → ℕ → ReadNode → Option ℕ
end_at ns k l m = if is_place l 2 0 m && (k + 1 == length ns) then Some k else None
