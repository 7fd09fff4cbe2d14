-- Pieces that are put one after another are one text.
use Rattle.std.proofs.Common.{rules, ◌≡◌, ℕ, List, ◌++◌}
use Rattle.std.proofs.lemmas.List.{append_assoc}

pub two : (b0 b1 a1 a2 : List ℕ) → b1 ≡ b0 ++ a1 → b1 ++ a2 ≡ b0 ++ (a1 ++ a2)
two b0 b1 a1 a2 e1 = search (rules, append_assoc)

pub three : (b0 b1 b2 a1 a2 a3 : List ℕ) → b1 ≡ b0 ++ a1 → b2 ≡ b1 ++ a2 → b2 ++ a3 ≡ b0 ++ (a1 ++ a2 ++ a3)
three b0 b1 b2 a1 a2 a3 e1 e2 = search (rules, append_assoc)

pub four : (b0 b1 b2 b3 a1 a2 a3 a4 : List ℕ) → b1 ≡ b0 ++ a1 → b2 ≡ b1 ++ a2 → b3 ≡ b2 ++ a3 →
    b3 ++ a4 ≡ b0 ++ (a1 ++ a2 ++ a3 ++ a4)
four b0 b1 b2 b3 a1 a2 a3 a4 e1 e2 e3 = search (rules, append_assoc)

pub five : (b0 b1 b2 b3 b4 a1 a2 a3 a4 a5 : List ℕ) → b1 ≡ b0 ++ a1 → b2 ≡ b1 ++ a2 → b3 ≡ b2 ++ a3 → b4 ≡ b3 ++ a4 →
    b4 ++ a5 ≡ b0 ++ (a1 ++ a2 ++ a3 ++ a4 ++ a5)
five b0 b1 b2 b3 b4 a1 a2 a3 a4 a5 e1 e2 e3 e4 = search (rules, append_assoc)
