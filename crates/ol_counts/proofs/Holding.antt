-- What the code's tables hold: the first link of a chain, and how long they are.
use Rattle.std.proofs.Common.{◌≡◌, ℕ, suc, List, length, map, reverse, slice_get, ap, ◌∙◌}
use Rattle.std.proofs.lemmas.List.{length-reverse, length-map}
use Rattle.ol_counts.specs.declared.need.Frame as frames
use Rattle.ol_counts.specs.HeldMachines.{frame_of}
use Rattle.ol_counts.specs.Machines.{Link, first_link}

pub first_is : (links : List Link) (chain k : ℕ) → chain ≡ suc k → first_link links chain ≡ slice_get links k
first_is links chain k e = ap (first_link links) e

pub stack_length : (xs : List frames.Frame) → length (reverse (map frame_of xs)) ≡ length xs
stack_length xs = length-reverse (map frame_of xs) ∙ length-map xs frame_of

pub left_length : (xs : List ℕ) → length (reverse xs) ≡ length xs
left_length xs = length-reverse xs
