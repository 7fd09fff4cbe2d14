-- Private: the copies that a ticket makes: what is written into their fields.
use Rattle.std.specs.Prelude.{◌≡◌, ℕ, zero, suc, ◌+◌, List, [], ◌∷◌, ◌++◌, length, drop}
use Rattle.ol_wire.specs.declared.layout.Parts.{Parts}
use Rattle.ol_wire.specs.declared.view.View.{View}
use Rattle.ol_wire.specs.References.{wire_ref}
use Rattle.ol_wire.specs.Layout.{born_wire}

-- the wires between the copies: two for each copy of f, of which each has one to each copy of g
abbrev pub born_wires : Parts → ℕ → (ℕ × ℕ) × (ℕ × ℕ)
born_wires z t = (
  (wire_ref (born_wire z t 0 0), wire_ref (born_wire z t 0 1)),
  (wire_ref (born_wire z t 1 0), wire_ref (born_wire z t 1 1)),
)

-- the fields of a copy that has n of them, from word w on, by the two wires that it may have
abbrev pub fields_due : ℕ → ℕ → ℕ × ℕ → List (ℕ × ℕ)
fields_due w zero x = []
fields_due w (suc zero) x = (w, x.0) ∷ []
fields_due w (suc (suc n)) x = (w, x.0) ∷ (w + 1, x.1) ∷ []

-- those of so many copies with n fields each: every copy has two words
abbrev pub copies_due : ℕ → ℕ → ℕ → ℕ × ℕ → ℕ × ℕ → List (ℕ × ℕ)
copies_due w zero n x y = []
copies_due w (suc zero) n x y = fields_due w n x
copies_due w (suc (suc c)) n x y = fields_due w n x ++ fields_due (w + 2) n y

-- these words are to be written before all others
abbrev pub AreDueFirst : List (ℕ × ℕ) → View → Type 0
AreDueFirst ws v = (more : List (ℕ × ℕ)) × (v.due ≡ ws ++ more)

-- and they are written
abbrev pub written : List (ℕ × ℕ) → View → View
written ws v = record v { due = drop (length ws) v.due }
