use Rattle.std.proofs.Common.{◌≡◌, drop}
use Rattle.ol_decoding.specs.Chains.{numeral_from}
use Rattle.ol_decoding.proofs.numerals.links.Given as goal

abbrev pub invariant-loop-place : goal.invariant-loop-place
invariant-loop-place l = numeral_from l.place l.under (drop l.place l.tree) ≡ numeral_from 0 2 l.tree
