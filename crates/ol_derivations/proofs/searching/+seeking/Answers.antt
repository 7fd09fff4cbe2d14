use Rattle.std.proofs.Common.{rules, ◌-◌, ◌<◌, length, take, ◌++◌, ◌∷◌, [], sym, ◌∙◌, subst, arith}
use Rattle.std.proofs.lemmas.List.{take_all}
use Rattle.ol_term.specs.Trees.{tree_of}
use Rattle.ol_beta.specs.Beta.{contracted, IsPastAfter}
use Rattle.ol_beta.specs.Faults.{IsBetaFault}
use Rattle.ol_beta.specs.declared.contracting.BetaFault.{BetaFault}
use Rattle.ol_derivations.proofs.Redexes.{redex_at, front, not_none}
use Rattle.ol_derivations.proofs.Seeking.{Tried, none_tried, searched_at, tried_on, cut_behind, all_tried}
use Rattle.ol_derivations.proofs.Seeking.{searched_on, none_left, past_behind}
use Rattle.ol_derivations.proofs.searching.+seeking.Goals as goal

pub seek-returns-then-n-eq0 : goal.seek-returns-then-n-eq0
seek-returns-then-n-eq0 g c =
    let l = c.args.left.now in
    searched_at (tree_of c.args.t.now) (tree_of c.args.u.now) c.args.n 0 l l c.in_ok-found.found c.if-n-eq0.true
    (c.in_ok-found.ensures l)

pub seek-loop-k-init : goal.seek-loop-k-init
seek-loop-k-init g c = none_tried (tree_of c.args.t.now) (tree_of c.args.u.now) (c.args.n - 1) c.args.left.now

pub seek-seek_behind-requires : goal.seek-seek_behind-requires
seek-seek_behind-requires g c = (
  search rules,
  (
    c.requires.within,
    (
      c.requires.bound,
      redex_at (tree_of c.args.t.now) c.in_ok-all.all.items c.loop-k.k c.index.result.now c.in_ok-all.ensures
          (omega (arith, c.loop-k-test.true, c.len-k-end.ensures, c.in_ok-all.all.ok.0)) c.index.ensures,
    ),
  ),
)

pub seek-loop-k-preserved : goal.seek-loop-k-preserved
seek-loop-k-preserved g c =
    let t = tree_of c.args.t.now in
    let u = tree_of c.args.u.now in
    let all = c.in_ok-all.all.items in
    let l = c.loop-k in
    let at = c.index.result.now in
    let m = c.args.n - 1 in
    let less : l.k < length all = omega (arith, c.loop-k-test.true, c.len-k-end.ensures, c.in_ok-all.all.ok.0) in
    let after = c.seek_behind.new.left in
    let found = c.in_ok-found-2.found in
    let no_cut = sym c.is_cut.ensures ∙ c.if-is_cut.false in
    subst (λ ats. Tried t u m ats c.args.left.now after c.first_found-result.result) (sym (front all l.k at less c.index.ensures))
    (subst (Tried t u m (take l.k all ++ at ∷ []) c.args.left.now after) (sym c.first_found-result.ensures)
    (tried_on t u m (take l.k all) at c.args.left.now l.left after l.result found no_cut l.invariant c.in_ok-found-2.ensures))

pub seek-returns-then-is_cut : goal.seek-returns-then-is_cut
seek-returns-then-is_cut g c =
    let t = tree_of c.args.t.now in
    let u = tree_of c.args.u.now in
    let all = c.in_ok-all.all.items in
    let l = c.loop-k in
    let at = c.index.result.now in
    let less : l.k < length all = omega (arith, c.loop-k-test.true, c.len-k-end.ensures, c.in_ok-all.all.ok.0) in
    cut_behind t u c.args.n (c.args.n - 1) l.k all at c.args.left.now l.left c.seek_behind.new.left l.result
    c.in_ok-found-2.found (omega (arith, c.if-n-eq0.false)) c.in_ok-all.ensures (front all l.k at less c.index.ensures)
    (sym c.is_cut.ensures ∙ c.if-is_cut.true) l.invariant c.in_ok-found-2.ensures

pub seek-returns : goal.seek-returns
seek-returns g c =
    let all = c.in_ok-all.all.items in
    let l = c.loop-k in
    all_tried (tree_of c.args.t.now) (tree_of c.args.u.now) c.args.n (c.args.n - 1) l.k all c.args.left.now l.left l.result
    (omega (arith, c.if-n-eq0.false)) c.in_ok-all.ensures
    (take_all l.k all (omega (arith, c.loop-k-test.false, c.len-k-end.ensures, c.in_ok-all.all.ok.0))) l.invariant

pub seek_behind-returns-then-left-eq0 : goal.seek_behind-returns-then-left-eq0
seek_behind-returns-then-left-eq0 g c =
    let l = c.args.left.now in
    none_left (contracted (tree_of c.args.t.now) c.args.at.now) (tree_of c.args.u.now) c.args.n l l c.requires.redex
    c.if-left-eq0.true

pub seek_behind-returns-in_ok-found-in-Ok : goal.seek_behind-returns-in_ok-found-in-Ok
seek_behind-returns-in_ok-found-in-Ok g c =
    let t = tree_of c.args.t.now in
    searched_on (contracted t c.args.at.now) (tree_of c.in-Ok.next) (tree_of c.args.u.now) c.args.n c.args.left.now
    c.seek.new.left c.in_ok-found-in-Ok.found c.in-Ok.ensures.step (omega (arith, c.if-left-eq0.false))
    c.in-Ok.ensures.within c.in_ok-found-in-Ok.ensures

pub seek_behind-returns-in-Past : goal.seek_behind-returns-in-Past
seek_behind-returns-in-Past g c =
    let t = tree_of c.args.t.now in
    let at = c.args.at.now in
    let p : IsPastAfter t at c.in-Past.size c.in-Past.depth =
    subst (λ (e : BetaFault). IsBetaFault t at e) c.in-Past.is c.in-Err.ensures.refusal in
    past_behind t (tree_of c.args.u.now) at c.args.n c.args.left.now (c.args.left.now - 1) c.in-Past.size c.in-Past.depth p

pub seek_behind-unreachable-requires : goal.seek_behind-unreachable-requires
seek_behind-unreachable-requires g c =
    let t = tree_of c.args.t.now in
    let at = c.args.at.now in
    not_none (contracted t at) c.requires.redex
    (subst (λ (e : BetaFault). IsBetaFault t at e) c.in-NotRedex.is c.in-Err.ensures.refusal)
