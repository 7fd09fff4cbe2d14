-- Readings, one piece of bytes after the other.
use Rattle.std.proofs.Common.{◌≡◌, ℕ, ◌<◌, ◌≤◌, ◌+◌, take, Result, Ok, Err, IfOk, OnOk, Vec, Global, Bool, true, false}
use Rattle.std.proofs.Common.{◌==◌, ◌&&◌, if◌then◌else◌, List, [], ◌∷◌, ◌++◌, length, Option, None, Some, refl, ap, sym}
use Rattle.std.proofs.Common.{◌∙◌, subst, append_assoc, append-nil, length-append, arith}
use Rattle.std.proofs.lemmas.List.{append_cancel_right}
use Rattle.std.specs.Str.{bytes_eq}
use Rattle.std.proofs.lemmas.Slice.Eq.{bytes_eq-Decides}
use Rattle.std.proofs.lemmas.Grind.{common_steps}
use Rattle.ol_io.specs.Outside.{Consumed, IsAllOf, IsLonger}
use Rattle.ol_io.specs.Readings.{Reading, reading, begun, gave, closed, IsReadOf, AreOf, AreOfSince, handed}
use Rattle.ol_io.specs.ReadingOn.{ReadsOn}

-- nothing more
pub gave-nothing : (rs : List Reading) → gave [] rs ≡ rs
gave-nothing [] = refl
gave-nothing (r ∷ rs) = ap (λ bytes. reading r.name bytes r.ended ∷ rs) (append-nil r.bytes)

-- one piece and the next
pub gave-more : (p q : List ℕ) (rs : List Reading) → gave q (gave p rs) ≡ gave (p ++ q) rs
gave-more p q [] = refl
gave-more p q (r ∷ rs) = ap (λ bytes. reading r.name bytes r.ended ∷ rs) (append_assoc r.bytes p q)

-- all that was read of a name since it was begun
pub closed-begun : (ended : Bool) (name bytes : List ℕ) (rs : List Reading) →
    closed ended (gave bytes (begun name ∷ rs)) ≡ reading name bytes ended ∷ rs
closed-begun true name bytes rs = refl
closed-begun false name bytes rs = refl

-- what was consumed of a file is its front
pub front-Consumed : (left : Option (List ℕ)) (bytes : List ℕ) (new : Option (List ℕ)) →
    Consumed left bytes new → IsReadOf left false bytes
front-Consumed None bytes new h = tt
front-Consumed (Some all) bytes new h = (h.0, h.2)

pub Consumed-more : (left mid new : Option (List ℕ)) (p q : List ℕ) → Consumed left p mid →
    Consumed mid q new → Consumed left (p ++ q) new
Consumed-more None None new p q h k = k
Consumed-more None (Some ys) new p q h k = absurd (cc)
Consumed-more (Some xs) None new p q (rest, e, h) k = absurd (cc)
Consumed-more (Some xs) (Some ys) new p q (rest, e, h) (rest', e', k) =
    let same : rest ≡ ys = cc in
    (rest', e', h ∙ ap (λ l. p ++ l) (same ∙ k) ∙ sym (append_assoc p q rest'))

-- nothing was read
pub front-nothing : (told : Option (List ℕ)) → IsReadOf told false []
front-nothing None = tt
front-nothing (Some all) = (all, refl)

-- the whole, to the end
pub whole-IsAllOf : (told : Option (List ℕ)) (bytes : List ℕ) → IsAllOf told bytes → IsReadOf told true bytes
whole-IsAllOf None bytes h = tt
whole-IsAllOf (Some all) bytes h = h

-- one reading was made
pub AreOf-one : (files : ℕ → List ℕ → Option (List ℕ)) (old new : List Reading)
    (name bytes : List ℕ) (ended : Bool) → new ≡ reading name bytes ended ∷ old
    → IsReadOf (files 0 name) ended bytes → AreOfSince files old new
AreOf-one files old new name bytes ended e h = (reading name bytes ended ∷ [], e, (h, tt))

-- files that are the same at each reading
AreOf-append : (told : List ℕ → Option (List ℕ)) (xs ys : List Reading) → AreOf (λ _. told) xs →
    AreOf (λ _. told) ys → AreOf (λ _. told) (xs ++ ys)
AreOf-append told [] ys h k = k
AreOf-append told (x ∷ xs) ys h k = (h.0, AreOf-append told xs ys h.1 k)

pub AreOfSince-then : (told : List ℕ → Option (List ℕ)) (old mid new : List Reading) →
    AreOfSince (λ _. told) old mid → AreOfSince (λ _. told) mid new → AreOfSince (λ _. told) old new
AreOfSince-then told old mid new (xs, e, h) (ys, d, k) =
    (ys ++ xs, d ∙ ap (λ l. ys ++ l) e ∙ sym (append_assoc ys xs old), AreOf-append told ys xs k h)

-- what was read after the first reading, and that
AreOf-parts : (files : ℕ → List ℕ → Option (List ℕ)) (r : Reading) (xs : List Reading) →
    AreOf files (xs ++ r ∷ []) → AreOf (λ n. files (n + 1)) xs × IsReadOf (files 0 r.name) r.ended r.bytes
AreOf-parts files r [] h = (tt, h.0)
AreOf-parts files r (x ∷ xs) h =
    let k = AreOf-parts files r xs h.1 in
    let e : length (xs ++ r ∷ []) ≡ length xs + 1 = length-append xs (r ∷ []) in
    ((subst (λ n. IsReadOf (files n x.name) x.ended x.bytes) e h.0, k.0), k.1)

pub AreOfSince-parts : (files : ℕ → List ℕ → Option (List ℕ)) (told : List ℕ → Option (List ℕ))
    (r : Reading) (old mid new : List Reading) → mid ≡ r ∷ old → AreOfSince (λ _. told) mid new
    → AreOfSince files old new → AreOfSince files old mid × AreOfSince (λ n. files (n + 1)) mid new
AreOfSince-parts files told r old mid new e (ys, d, k) (zs, c, j) =
    let same : (ys ++ r ∷ []) ++ old ≡ zs ++ old = append_assoc ys (r ∷ []) old
    ∙ ap (λ l. ys ++ l) (sym e) ∙ sym d ∙ c in
    let is : zs ≡ ys ++ r ∷ [] = sym (append_cancel_right (ys ++ r ∷ []) zs old same) in
    let all = AreOf-parts files r ys (subst (AreOf files) is j) in
    ((r ∷ [], e, (all.1, tt)), (ys, d, all.0))

-- nothing was read
pub AreOfSince-nothing : (files : ℕ → List ℕ → Option (List ℕ)) (old : List Reading) → AreOfSince files old old
AreOfSince-nothing files old = ([], refl, tt)

-- the one reading that was made is of its file
pub AreOf-only : (files : ℕ → List ℕ → Option (List ℕ)) (old new : List Reading)
    (name bytes : List ℕ) (ended : Bool) → new ≡ reading name bytes ended ∷ old
    → AreOfSince files old new → IsReadOf (files 0 name) ended bytes
AreOf-only files old new name bytes ended e (rs, d, h) =
    let same : (reading name bytes ended ∷ []) ++ old ≡ rs ++ old = sym e ∙ d in
    let is : rs ≡ reading name bytes ended ∷ [] = sym
    (append_cancel_right (reading name bytes ended ∷ []) rs old same) in
    let all = subst (AreOf files) is h in
    all.0

-- to its end it is all of the file
pub IsAllOf-read : (told : Option (List ℕ)) (bytes : List ℕ) → IsReadOf told true bytes → IsAllOf told bytes
IsAllOf-read None bytes h = tt
IsAllOf-read (Some all) bytes h = h

-- the file is no shorter
pub IsLonger-read : (told : Option (List ℕ)) (ended : Bool) (bytes : List ℕ) (most given : ℕ) →
    length bytes ≡ given → most < given → IsReadOf told ended bytes → IsLonger told most
IsLonger-read None ended bytes most given e past h = tt
IsLonger-read (Some all) true bytes most given e past h = rw (← h, e) past
IsLonger-read (Some all) false bytes most given e past (rest, h) = rw h
    (let l = length-append bytes rest in omega (arith, l, e, past))

pub whole_read : {E : Type 0} (result : Result (Vec ℕ Global) E) (told : Option (List ℕ))
    (ended : Bool) (bytes : List ℕ) → IfOk result (λ v. v.items ≡ bytes) → OnOk result (ended ≡ true)
    → IsReadOf told ended bytes → IfOk result (λ v. IsAllOf told v.items)
whole_read (Ok v) told ended bytes a e h = IsAllOf-read told v.items (rw (a, ← e) h)
whole_read (Err x) told ended bytes a e h = tt

-- a read gave some bytes more, and no bytes are answered
pub reads_more : {E : Type 0} (left mid new : Option (List ℕ)) (given given' : ℕ) (ended : Bool)
    (old between after : List Reading) (bytes buf : List ℕ) (n : ℕ) (e : E) → Unit {0}
    → Consumed left bytes mid → Consumed mid (take n buf) new → between ≡ gave bytes old →
    after ≡ gave (take n buf) between → ended ≡ false → given ≡ length bytes → given' ≡ given + n → n ≤ length buf
    → ReadsOn left given' ended old after (Err e)
reads_more left mid new given given' ended old between after bytes buf n x t h k is more unended count further within =
    let front : IsReadOf left ended (bytes ++ take n buf) = rw unended
    (front-Consumed left (bytes ++ take n buf) new (Consumed-more left mid new bytes (take n buf) h k)) in
    let grown : after ≡ closed ended (gave (bytes ++ take n buf) old) = rw unended
    (more ∙ ap (gave (take n buf)) is ∙ gave-more bytes (take n buf) old) in
    let long : length (bytes ++ take n buf) ≡ given' = grind (arith, common_steps, count, further, within) in
    record { bytes = bytes ++ take n buf; grown = grown; counted = long; answered = tt; told = front }

-- a reading is of a file with the bytes that it gave
own_bytes : (ended : Bool) (bytes : List ℕ) → IsReadOf (Some bytes) ended bytes
own_bytes true bytes = refl
own_bytes false bytes = ([], sym (append-nil bytes))

own_file : (r : Reading) (rs : List Reading) → handed (r ∷ rs) (length rs) r.name ≡ Some r.bytes
own_file r rs =
    let here : (length rs == length rs) ≡ true = grind (arith, common_steps) in
    rw (here, (bytes_eq-Decides r.name r.name).1 refl) refl

older_file : (r : Reading) (rs : List Reading) (n : ℕ) (name : List ℕ) → n < length rs →
    handed (r ∷ rs) n name ≡ handed rs n name
older_file r rs n name h =
    let there : (n == length rs) ≡ false = grind (arith, common_steps, h) in
    rw there refl

of_handed : (files : ℕ → List ℕ → Option (List ℕ)) (rs : List Reading) →
    ((n : ℕ) (name : List ℕ) → n < length rs → files n name ≡ handed rs n name) → AreOf files rs
of_handed files [] same = tt
of_handed files (r ∷ rs) same =
    let e = same (length rs) r.name (omega arith) ∙ own_file r rs in (
      subst (λ o. IsReadOf o r.ended r.bytes) (sym e) (own_bytes r.ended r.bytes),
      of_handed files rs (λ n name h. same n name (omega (arith, h)) ∙ older_file r rs n name h),
    )

-- what was handed over is of the files that it makes
pub handed-over : (rs : List Reading) → AreOf (handed rs) rs
handed-over rs = of_handed (handed rs) rs (λ n name h. refl)

-- each of these has some bytes
pub handed-told : (rs : List Reading) (n : ℕ) (name : List ℕ) → (bytes : List ℕ) × (handed rs n name ≡ Some bytes)
handed-told [] n name = ([], refl)
handed-told (r ∷ rs) n name = elim ((n == length rs) && bytes_eq r.name name) as
    (λ b. (bytes : List ℕ) × ((if b then Some r.bytes else handed rs n name) ≡ Some bytes)) [
      | true ↦ (r.bytes, refl)
      | false ↦ handed-told rs n name
    ]
