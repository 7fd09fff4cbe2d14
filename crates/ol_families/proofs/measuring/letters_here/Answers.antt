use Rattle.std.proofs.Common.{◌≡◌, ◌+◌, ◌*◌, ℕ, [], length, ap, sym, subst, arith}
use Rattle.std.proofs.lemmas.Grind.{common_steps}
use Rattle.ol_beta.specs.Measures.{places_of}
use Rattle.ol_families.specs.Held.{lam, app, bare, contracted, held_of, held_letters}
use Rattle.ol_families.specs.Steps.{AreLetters}
use Rattle.ol_families.proofs.Lettering as lettering
use Rattle.ol_families.proofs.measuring.letters_here.Goals as goal

pub overflow_mul-result : goal.overflow_mul-result
overflow_mul-result c =
    let t = held_of c.args.term.now in
    let f = held_of c.in-App.function.value in
    let a = held_of c.in-App.argument.value in
    let b = held_of c.in-Lam.body.value in
    let e : t ≡ app f a c.in-App.w.items = ap held_of c.in-App.is in
    let d : f ≡ lam b c.in-Lam.field-1.items = (let x = ap held_of c.in-Lam.is in cc) in
    let l : c.letters_of-each.result ≡ held_letters a = cc in
    let p : c.places_of.result ≡ places_of 0 (bare b) = cc in
    let q = lettering.product_here t f a b c.in-App.w.items c.in-Lam.field-1.items e d
    0 c.letters_of-each.result c.places_of.result c.requires.few c.requires.small l p in
    omega arith

pub overflow_add-result-in-Lam-2 : goal.overflow_add-result-in-Lam-2
overflow_add-result-in-Lam-2 c =
    let t = held_of c.args.term.now in
    let f = held_of c.in-App.function.value in
    let a = held_of c.in-App.argument.value in
    let b = held_of c.in-Lam.body.value in
    let e : t ≡ app f a c.in-App.w.items = ap held_of c.in-App.is in
    let d : f ≡ lam b c.in-Lam.field-1.items = (let x = ap held_of c.in-Lam.is in cc) in
    let l : c.letters_of-each.result ≡ held_letters a = cc in
    let p : c.places_of.result ≡ places_of 0 (bare b) = cc in
    let n : c.letters_of.result ≡ held_letters b = cc in
    let w : c.len.result ≡ length c.in-App.w.items = grind (arith, common_steps) in
    let q = lettering.product_here t f a b c.in-App.w.items c.in-Lam.field-1.items e d
    c.letters_of.result c.letters_of-each.result c.places_of.result c.requires.few c.requires.small l p in
    let s = lettering.sum_here t f a b c.in-App.w.items c.in-Lam.field-1.items e d
    c.letters_of.result c.letters_of-each.result c.places_of.result c.requires.few n in
    let h = c.requires.few in
    omega arith

pub returns-in-Lam-clause-letters : goal.returns-in-Lam-clause-letters
returns-in-Lam-clause-letters c =
    let t = held_of c.args.term.now in
    let f = held_of c.in-App.function.value in
    let a = held_of c.in-App.argument.value in
    let b = held_of c.in-Lam.body.value in
    let e : t ≡ app f a c.in-App.w.items = ap held_of c.in-App.is in
    let d : f ≡ lam b c.in-Lam.field-1.items = (let x = ap held_of c.in-Lam.is in cc) in
    let l : c.letters_of-each.result ≡ held_letters a = cc in
    let p : c.places_of.result ≡ places_of 0 (bare b) = cc in
    let n : c.letters_of.result ≡ held_letters b = cc in
    let w : c.len.result ≡ length c.in-App.w.items = grind (arith, common_steps) in
    let g = lettering.letters_here t f a b c.in-App.w.items c.in-Lam.field-1.items e d
    c.letters_of.result c.letters_of-each.result c.places_of.result n l p in
    subst (λ (k : ℕ). AreLetters (contracted 0 t [])
    (k + 1 + c.letters_of.result + c.places_of.result * (c.letters_of-each.result + 1))) (sym w) g

pub returns-in-Lam-clause-bound : goal.returns-in-Lam-clause-bound
returns-in-Lam-clause-bound c =
    let t = held_of c.args.term.now in
    let f = held_of c.in-App.function.value in
    let a = held_of c.in-App.argument.value in
    let b = held_of c.in-Lam.body.value in
    let e : t ≡ app f a c.in-App.w.items = ap held_of c.in-App.is in
    let d : f ≡ lam b c.in-Lam.field-1.items = (let x = ap held_of c.in-Lam.is in cc) in
    let l : c.letters_of-each.result ≡ held_letters a = cc in
    let p : c.places_of.result ≡ places_of 0 (bare b) = cc in
    let n : c.letters_of.result ≡ held_letters b = cc in
    let w : c.len.result ≡ length c.in-App.w.items = grind (arith, common_steps) in
    let q = lettering.product_here t f a b c.in-App.w.items c.in-Lam.field-1.items e d
    c.letters_of.result c.letters_of-each.result c.places_of.result c.requires.few c.requires.small l p in
    let s = lettering.sum_here t f a b c.in-App.w.items c.in-Lam.field-1.items e d
    c.letters_of.result c.letters_of-each.result c.places_of.result c.requires.few n in
    omega arith
