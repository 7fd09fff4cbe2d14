-- The first file of a name, and what is left of a file.
use Rattle.std.proofs.Common.{◌≡◌, ℕ, zero, suc, ◌<◌, ◌+◌, List, [], ◌∷◌, true, false, length}
use Rattle.std.proofs.Common.{get_or, drop, refl, arith, Some}
use Rattle.std.specs.Str.{bytes_eq}
use Rattle.std.proofs.lemmas.List.{drop-drop}
use Rattle.std.proofs.lemmas.Grind.{common_steps}
use Rattle.ol_io.specs.Files.{File, contents_of}
use Rattle.ol_io.specs.Unread.{left_of}

pub contents_of-found : (files : List File) (name : List ℕ) (i : ℕ) (d : File) → i < length files
    → bytes_eq (get_or files i d).name name ≡ true
    → contents_of (drop i files) name ≡ Some (left_of files i 0)
contents_of-found [] name i d h e = absurd (omega arith)
contents_of-found (f ∷ fs) name zero d h e = rw e refl
contents_of-found (f ∷ fs) name (suc i) d h e = contents_of-found fs name i d (omega arith) e

pub contents_of-passed : (files : List File) (name : List ℕ) (i : ℕ) (d : File) → i < length files
    → bytes_eq (get_or files i d).name name ≡ false
    → contents_of (drop i files) name ≡ contents_of (drop (suc i) files) name
contents_of-passed [] name i d h e = absurd (omega arith)
contents_of-passed (f ∷ fs) name zero d h e = rw e refl
contents_of-passed (f ∷ fs) name (suc i) d h e = contents_of-passed fs name i d (omega arith) e

pub left_of-found : (files : List File) (place at : ℕ) (found d : File) → place < length files →
    found ≡ get_or files place d
    → left_of files place at ≡ drop at found.bytes
left_of-found [] place at found d h e = absurd (omega arith)
left_of-found (f ∷ fs) zero at found d h e = rw e refl
left_of-found (f ∷ fs) (suc i) at found d h e = left_of-found fs i at found d (omega arith) e

-- reading on in a file
pub left_of-further : (files : List File) (place at n : ℕ) →
    drop n (left_of files place at) ≡ left_of files place (at + n)
left_of-further [] place at n = grind (arith, common_steps)
left_of-further (f ∷ fs) zero at n = drop-drop n at f.bytes
left_of-further (f ∷ fs) (suc i) at n = left_of-further fs i at n
