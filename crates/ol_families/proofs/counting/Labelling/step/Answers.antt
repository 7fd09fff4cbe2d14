use Rattle.std.proofs.Common.{◌≡◌, ℕ, ◌+◌, Bool, true, Option, Some, None, if◌then◌else◌, length, sym, ap, ◌∙◌, arith}
use Rattle.std.proofs.lemmas.Grind.{common_steps}
use Rattle.std.specs.Option.{option_map}
use Rattle.std.specs.declared.vec.Vec.{Vec}
use Rattle.std.specs.declared.alloc.Global.{Global}
use Rattle.ol_beta.proofs.Bound.{bound_room}
use Rattle.ol_families.specs.declared.degrees.Letter.{Letter}
use Rattle.ol_families.specs.Held.{held_of, bare, contracted, degree, held_letters}
use Rattle.ol_families.specs.Steps.{on, too_long, too_large}
use Rattle.ol_families.specs.Tables.{degrees_of}
use Rattle.ol_families.proofs.Knowing.{degree_known}
use Rattle.ol_families.proofs.Lettering.{same_letters}
use Rattle.ol_families.proofs.Stepping.{no_degree, is_found, true_and_false}
use Rattle.ol_families.proofs.counting.Labelling.step.Goals as goal

pub unreachable-requires : goal.unreachable-requires
unreachable-requires c =
    no_degree (held_of c.args.self.now.term) c.args.moves.now c.requires.redex
    (sym c.in_ok-row.ensures ∙ ap (λ (o : Option (Vec Letter Global)). option_map (λ r. r.items) o) c.in_default.is)

pub returns-then-len-self : goal.returns-then-len-self
returns-then-len-self c =
    let h = held_of c.args.self.now.term in
    let d : degree h c.args.moves.now ≡ Some c.in-Some.row.items =
    sym c.in_ok-row.ensures ∙ ap (λ (o : Option (Vec Letter Global)). option_map (λ r. r.items) o) c.in-Some.is in
    let n : c.len.result ≡ length c.in-Some.row.items = grind (arith, common_steps) in
    let w = c.requires.written in
    too_long c.in-Some.row.items d (omega arith)

pub returns-then-letters_after-gt-MOST_LETTERS : goal.returns-then-letters_after-gt-MOST_LETTERS
returns-then-letters_after-gt-MOST_LETTERS c =
    let h = held_of c.args.self.now.term in
    let d : degree h c.args.moves.now ≡ Some c.in-Some.row.items =
    sym c.in_ok-row.ensures ∙ ap (λ (o : Option (Vec Letter Global)). option_map (λ r. r.items) o) c.in-Some.is in
    too_large c.in-Some.row.items c.letters_after.result d c.letters_after.ensures.letters (omega arith)

pub note-requires : goal.note-requires
note-requires c =
    let h = held_of c.args.self.now.term in
    let d : degree h c.args.moves.now ≡ Some c.in-Some.row.items =
    sym c.in_ok-row.ensures ∙ ap (λ (o : Option (Vec Letter Global)). option_map (λ r. r.items) o) c.in-Some.is in
    record {
      known = degree_known (length (degrees_of c.args.self.now.degrees)) h c.args.moves.now c.in-Some.row.items
          c.requires.known d;
    }

pub contract_at-requires-clause-room : goal.contract_at-requires-clause-room
contract_at-requires-clause-room c =
    bound_room 1000 0 (bare (held_of c.args.self.now.term)) c.requires.bound (omega (arith, c.requires.small))

pub prove-unreachable-requires : goal.prove-unreachable-requires
prove-unreachable-requires c =
    true_and_false c.in_ok-found.found
    (is_found (held_of c.args.self.now.term) (held_of c.contract_at.new.term) c.args.moves.now c.in_ok-degree.degree
    c.in_ok-found.found c.requires.redex c.in_ok-found.ensures) c.if-prove.true

pub returns : goal.returns
returns c =
    let h = held_of c.args.self.now.term in
    let d : degree h c.args.moves.now ≡ Some c.in-Some.row.items =
    sym c.in_ok-row.ensures ∙ ap (λ (o : Option (Vec Letter Global)). option_map (λ r. r.items) o) c.in-Some.is in
    let n : c.len.result ≡ length c.in-Some.row.items = grind (arith, common_steps) in
    let m : c.len-2.result ≡ length c.in-Some.row.items = grind (arith, common_steps) in
    let u = held_of c.contract_at.new.term in
    let f : c.in_ok-found.found ≡ true = is_found h u c.args.moves.now c.in_ok-degree.degree c.in_ok-found.found
    c.requires.redex c.in_ok-found.ensures in
    let e : contracted c.in_ok-degree.degree h c.args.moves.now ≡ Some u =
    c.in_ok-found.ensures ∙ ap (λ (b : Bool). if b then Some u else None) f in
    let a : c.letters_after.result ≡ held_letters u =
    same_letters c.in_ok-degree.degree 0 h c.args.moves.now u c.letters_after.result e c.letters_after.ensures.letters in
    let w = c.requires.written in
    on c.in-Some.row.items c.in_ok-degree.degree d c.in_ok-degree.ensures e
    (ap (λ (n : ℕ). c.args.self.now.written + n) m) (omega arith) (omega arith)
