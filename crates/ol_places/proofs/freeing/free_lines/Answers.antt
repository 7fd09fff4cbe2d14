use Rattle.std.proofs.Common.{◌≡◌, ◌++◌, refl, sym, ap, ◌∙◌, subst, arith}
use Rattle.ol_places.specs.Tokens.{kind_token}
use Rattle.ol_places.specs.Frees.{behind_all, line_if}
use Rattle.ol_places.specs.Scans.{scopes_of}
use Rattle.ol_places.proofs.Lefts.{AreLeft, IsSplit, left_begin, left_more, left_end}
use Rattle.ol_places.proofs.freeing.free_lines.Goals as goal

pub loop-first-init : goal.loop-first-init
loop-first-init c = (
  left_begin c.args.bytes.now c.new-text.result.items _ c.no_scan-scan.result.mode
      (scopes_of c.no_scan-scan.result.scopes.items) c.new-text.ensures.items refl c.no_scan-scan.ensures.mode
      (ap scopes_of c.no_scan-scan.ensures.scopes),
  c.no_scan-scan.ensures.scan,
  omega arith,
  omega arith,
)

pub returns : goal.returns
returns c =
    left_end c.loop-first.text.items c.loop-first.place c.loop-first.scan.mode
    (scopes_of c.loop-first.scan.scopes.items) c.loop-first.invariant.0 c.in_default.ensures.first

pub loop-first-preserved : goal.loop-first-preserved
loop-first-preserved c =
    let rest = c.loop-first.rest.now in
    let gap = c.split_at.result.0.now in
    let behind = c.split_at.result.1.now in
    let token = c.split_at-in-Some.result.0.now in
    let left = c.split_at-in-Some.result.1.now in
    let split : IsSplit rest gap behind token left c.in-Some.first = record {
      gap_of = c.split_at.ensures.front;
      behind_of = c.split_at.ensures.back;
      token_of = c.split_at-in-Some.ensures.front;
      left_of = c.split_at-in-Some.ensures.back;
    } in
    let here = c.behind_all-here.ensures.place in
    let places : behind_all (behind_all c.loop-first.place gap) token ≡ c.behind_all-place.result =
    ap (λ p. behind_all p token) (sym here) ∙ sym c.behind_all-place.ensures.place in
    let taken = c.in_ok-free.ensures in
    let one = left_more c.loop-first.text.items c.put_line.new.text.items c.in-Some.first c.loop-first.place
    c.loop-first.scan.mode c.take.new.scan.mode (scopes_of c.loop-first.scan.scopes.items)
    (scopes_of c.take.new.scan.scopes.items) c.in_ok-free.free split c.in-Some.ensures.first c.loop-first.invariant.0
    taken.free_is taken.mode_is taken.scopes_are
    (c.in_ok-put_line.ensures ∙ ap (λ p. c.loop-first.text.items ++ line_if c.in_ok-free.free token p) here) in (
      subst (λ p. AreLeft c.args.bytes.now c.put_line.new.text.items p c.take.new.scan.mode
          (scopes_of c.take.new.scan.scopes.items) left) places one,
      taken.scan,
      omega arith,
      omega arith,
    )
