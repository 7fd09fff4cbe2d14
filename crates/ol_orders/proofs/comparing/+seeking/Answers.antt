use Rattle.std.proofs.Common.{◌≡◌, ◌≢◌, ℕ, ◌+◌, ◌-◌, ◌*◌, ◌<◌, true, None, Some, Option, List, rules, ◌∷◌, [], ◌++◌, length, arith, sym, ap, ◌∙◌, subst}
use Rattle.ol_net.specs.declared.parts.Kind.{Kind}
use Rattle.ol_net.specs.Graph.{kind_at}
use Rattle.ol_net.specs.Nets.{HasNode}
use Rattle.ol_net.specs.Numbered.{net_of}
use Rattle.ol_net.proofs.Places.{kind_at-inside}
use Rattle.ol_net.proofs.Numbered.{has_node}
use Rattle.ol_net.specs.declared.parts.Port.{Port}
use Rattle.ol_orders.specs.Meetings.{met_by, EachMet, Finds}
use Rattle.ol_orders.specs.Same.{MayMeet, Fails, FailsAt}
use Rattle.ol_orders.specs.Walked.{SearchedAt}
use Rattle.ol_orders.proofs.Tables.{are_new, meets_new}
use Rattle.ol_orders.proofs.Seeking.{all_one, one_left, take_taken, take_unlike, take_stopped, take_apart, none_taken, seeded_by}
use Rattle.ol_orders.proofs.Trying.{fails_left, first_is, fails_taken, fails_unlike, spends_next, fails_nowhere, searched_on}
use Rattle.ol_orders.proofs.Trying.{unused, none_on, failed_0, failed_on, failed_all, found_at}
use Rattle.ol_orders.proofs.Walking.{has_walked}
use Rattle.ol_orders.proofs.comparing.+seeking.Goals as goal

pub seek-returns-in-Some-first_alone-clause-found : goal.seek-returns-in-Some-first_alone-clause-found
seek-returns-in-Some-first_alone-clause-found t c =
    let met = c.args.met.now in
    let there : c.deref.result.now ≡ met.there.items = c.deref.ensures.value in
    let back : c.deref-in-None.result.now ≡ met.back.items = c.deref-in-None.ensures.value in
    let y = c.in-Some-first_alone in
    let each = subst (EachMet c.args.a.now) there c.in-None.ensures.none in
    let alone = ap (λ ts. met_by ts y.field-0.0) (sym back) ∙ y.ensures.alone.0 in (
      one_left c.args.a.now c.args.b.now c.is_tabled.ensures.tables c.is_tabled-2.ensures.tables met.pairs.items
          met.there.items met.back.items c.requires.tables.tell each y.field-0.0 alone y.ensures.alone.1,
      unused (Fails c.args.a.now c.args.b.now met.pairs.items) c.args.tries.now
          (fails_left c.args.a.now c.args.b.now met.pairs.items met.there.items met.back.items
          c.requires.tables.tell each y.field-0.0 alone y.ensures.alone.1),
    )

pub seek-try_each-requires : goal.seek-try_each-requires
seek-try_each-requires t c =
    let met = c.args.met.now in
    let there : c.deref.result.now ≡ met.there.items = c.deref.ensures.value in
    let x = c.in-Some in
    let alone = ap (λ ts. met_by ts x.x.0) (sym there) ∙ x.ensures.alone.0 in
    let first = first_is c.args.a.now c.args.b.now met.pairs.items met.there.items met.back.items
    c.requires.tables.tell x.x.0 alone x.ensures.alone.1
    (subst (λ (ts : List (Option ℕ)). (z : ℕ) → z < x.x.0 → (k : Kind) (i : ℕ) → HasNode (net_of c.args.a.now) z k i →
    (y : ℕ) × (met_by ts z ≡ Some y)) there x.ensures.first) in
    (search rules, (c.requires.free, (c.requires.tables, (c.requires.walked, (alone, (x.ensures.alone.1, first))))))

pub seek-returns-in-None-first_alone-clause-found : goal.seek-returns-in-None-first_alone-clause-found
seek-returns-in-None-first_alone-clause-found t c =
    let met = c.args.met.now in
    let there : c.deref.result.now ≡ met.there.items = c.deref.ensures.value in
    let back : c.deref-in-None.result.now ≡ met.back.items = c.deref-in-None.ensures.value in
    all_one c.args.a.now c.args.b.now c.is_tabled.ensures.tables c.is_tabled-2.ensures.tables met.pairs.items
    met.there.items met.back.items c.requires.tables.tell c.requires.free c.requires.walked
    (subst (EachMet c.args.a.now) there c.in-None.ensures.none)
    (subst (EachMet c.args.b.now) back c.in-None-first_alone.ensures.none)

pub try_each-returns-clause-found : goal.try_each-returns-clause-found
try_each-returns-clause-found t c =
    let a = c.args.a.now in
    let b = c.args.b.now in
    let met = c.args.met.now in
    let l = c.loop-n in (
      none_taken a b c.is_tabled.ensures.tables c.is_tabled-2.ensures.tables met.pairs.items
          met.there.items met.back.items c.requires.tables.tell c.args.x.0 c.requires.alone c.requires.there
          (λ y i. l.invariant.1 y (omega (arith, i, c.loop-n-test.false, c.born-n-end.ensures.born))),
      failed_all a b met.pairs.items c.args.x.0 c.args.tries.now c.requires.first l.n l.tries
          (omega (arith, c.loop-n-test.false, c.born-n-end.ensures.born, l.auto.n-end)) l.invariant.2,
    )

pub try_each-loop-n-init : goal.try_each-loop-n-init
try_each-loop-n-init t c = (
  omega arith,
  (λ y l. absurd (omega (arith, l))),
  failed_0 c.args.a.now c.args.b.now c.args.met.now.pairs.items c.args.x.0 c.args.tries.now,
)

pub try_each-loop-n-preserved : goal.try_each-loop-n-preserved
try_each-loop-n-preserved t c =
    let a = c.args.a.now in
    let b = c.args.b.now in
    let met = c.args.met.now.pairs.items in
    let l = c.loop-n in
    let rest = c.try_pair.new.tries in
    let vain = subst (SearchedAt a b met c.args.x.0 l.n l.tries rest) c.in-Apart.is c.in_ok-found.ensures.found in (
      omega (arith, l.invariant.0, c.in_ok-found.ensures.tries),
      none_on a b met c.args.x.0 l.n l.invariant.1 vain.0,
      failed_on a b met c.args.x.0 c.args.tries.now l.n l.tries rest l.invariant.2 vain.1,
    )

pub try_each-returns-in_default : goal.try_each-returns-in_default
try_each-returns-in_default t c =
    let l = c.loop-n in
    let inside : l.n < length c.args.b.now.nodes = omega (arith, c.loop-n-test.true, c.born-n-end.ensures.born) in
    record {
      found = found_at c.args.a.now c.args.b.now c.args.met.now.pairs.items c.args.x.0 c.args.tries.now
          c.requires.first l.n l.tries c.try_pair.new.tries inside l.invariant.2 c.in_ok-found.found
          c.in_default.not-Apart c.in_ok-found.ensures.found;
      tries = omega (arith, l.invariant.0, c.in_ok-found.ensures.tries);
    }

pub try_pair-returns-in-Some-clause-found : goal.try_pair-returns-in-Some-clause-found
try_pair-returns-in-Some-clause-found t c =
    let met = c.args.met.now in
    let h : met_by met.back.items c.args.y.0 ≡ Some c.in-Some.field-0 =
    (let v = c.deref.ensures.value in let e = c.met_by.ensures in let i = c.in-Some.is in cc) in (
      take_taken c.args.a.now c.args.b.now c.is_tabled.ensures.tables c.is_tabled-2.ensures.tables met.pairs.items
          met.there.items met.back.items c.requires.tables.tell c.args.x.0 c.requires.alone c.requires.there
          c.args.y.0 c.in-Some.field-0 h,
      unused (FailsAt c.args.a.now c.args.b.now met.pairs.items c.args.x.0 c.args.y.0) c.args.tries.now
          (fails_taken c.args.a.now c.args.b.now met.pairs.items met.there.items met.back.items
          c.requires.tables.tell c.args.x.0 c.args.y.0 c.in-Some.field-0 h),
    )

pub try_pair-returns-then-not-is_like-clause-found : goal.try_pair-returns-then-not-is_like-clause-found
try_pair-returns-then-not-is_like-clause-found t c =
    let met = c.args.met.now in
    let d : kind_at c.args.a.now.nodes c.args.x.0 ≢ kind_at c.args.b.now.nodes c.args.y.0 =
    (λ e. let t = c.is_like.ensures.1 (c.kind_of.ensures.table ∙ e ∙ sym c.kind_of-2.ensures.table) in
    let f = c.if-not-is_like.true in absurd (cc)) in (
      take_unlike c.args.a.now c.args.b.now c.is_tabled.ensures.tables c.is_tabled-2.ensures.tables met.pairs.items
          met.there.items met.back.items c.requires.tables.tell c.args.x.0 c.requires.alone c.requires.there
          c.args.y.0 d,
      unused (FailsAt c.args.a.now c.args.b.now met.pairs.items c.args.x.0 c.args.y.0) c.args.tries.now
          (fails_unlike c.args.a.now c.args.b.now met.pairs.items c.args.x.0 c.args.y.0 d),
    )

pub try_pair-returns-then-tries-eq0-clause-found : goal.try_pair-returns-then-tries-eq0-clause-found
try_pair-returns-then-tries-eq0-clause-found t c =
    let a = c.args.a.now in
    let b = c.args.b.now in
    let met = c.args.met.now in
    let o : met_by met.back.items c.args.y.0 ≡ None =
    (let v = c.deref.ensures.value in let e = c.met_by.ensures in let i = c.in_default.is in cc) in
    let like : c.is_like.result ≡ true = (let f = c.if-not-is_like.false in cc) in
    let k : kind_at a.nodes c.args.x.0 ≡ kind_at b.nodes c.args.y.0 =
    sym c.kind_of.ensures.table ∙ c.is_like.ensures.0 like ∙ c.kind_of-2.ensures.table in
    let may : MayMeet a b met.pairs.items c.args.x.0 c.args.y.0 = (
      are_new a b met.pairs.items met.there.items
          met.back.items c.requires.tables.tell c.args.x.0 c.args.y.0 c.requires.alone o,
      k,
    ) in
    spends_next a b met.pairs.items c.args.x.0 c.args.y.0 may c.args.tries.now c.if-tries-eq0.true

pub try_pair-put_pair-requires-clause-first : goal.try_pair-put_pair-requires-clause-first
try_pair-put_pair-requires-clause-first t c =
    let n = c.requires.there in
    let i = kind_at-inside c.args.a.now.nodes c.args.x.0 (n.0, n.1) ((has_node c.args.a.now c.args.x.0 n.0 n.1).0 n.2) in
    let e : length c.in_ok-more.more.there.items ≡ length c.args.met.now.there.items = ap length c.in_ok-more.ensures.there in
    omega (arith, i, e, c.requires.tables.there_size)

pub try_pair-returns-in-Some-2-clause-found : goal.try_pair-returns-in-Some-2-clause-found
try_pair-returns-in-Some-2-clause-found t c =
    let a = c.args.a.now in
    let b = c.args.b.now in
    let met = c.args.met.now in
    let had = c.put_pair.new.met.pairs.items in
    let from = c.free_ports.result + 3 * c.len.result in
    let o : met_by met.back.items c.args.y.0 ≡ None =
    (let v = c.deref.ensures.value in let e = c.met_by.ensures in let i = c.in_default.is in cc) in
    let like : c.is_like.result ≡ true = (let f = c.if-not-is_like.false in cc) in
    let k : kind_at a.nodes c.args.x.0 ≡ kind_at b.nodes c.args.y.0 =
    sym c.kind_of.ensures.table ∙ c.is_like.ensures.0 like ∙ c.kind_of-2.ensures.table in
    let e : had ≡ met.pairs.items ++ (c.args.x.0, c.args.y.0) ∷ [] =
    c.in_ok-put_pair.ensures.pairs ∙ ap (λ (ps : List (ℕ × ℕ)). ps ++ (c.args.x.0, c.args.y.0) ∷ []) c.in_ok-more.ensures.pairs in
    let meets = meets_new a b met.pairs.items met.there.items met.back.items c.requires.tables.tell c.args.x.0 c.args.y.0
    had c.requires.alone o k e in
    let g = subst (λ (o : Option (Port × Port)). Finds a b from had o c.walk.new.met.pairs.items) c.in-Some-2.is c.in_ok-walk.ensures.found in
    let may : MayMeet a b met.pairs.items c.args.x.0 c.args.y.0 = (
      are_new a b met.pairs.items met.there.items
          met.back.items c.requires.tables.tell c.args.x.0 c.args.y.0 c.requires.alone o,
      k,
    ) in
    let size : c.len.result ≡ length met.pairs.items = search rules in
    let from_is : from ≡ a.free + 3 * length met.pairs.items = omega (arith, size, c.free_ports.ensures.free) in
    let some : c.args.tries.now ≢ 0 = c.if-tries-eq0.false in (
      take_stopped a b c.is_tabled.ensures.tables c.is_tabled-2.ensures.tables met.pairs.items
          met.there.items met.back.items c.requires.tables.tell c.args.x.0 c.requires.alone c.requires.there
          c.args.y.0 had from g.0 g.1 meets g.2 g.3 g.4,
      (
        1,
        fails_nowhere a b met.pairs.items c.args.x.0 c.args.y.0 may had from e from_is g.0 g.1 g.2 g.3 g.4,
        omega (arith, some),
      ),
    )

pub try_pair-seek-requires : goal.try_pair-seek-requires
try_pair-seek-requires t c =
    let a = c.args.a.now in
    let b = c.args.b.now in
    let met = c.args.met.now in
    let had = c.put_pair.new.met.pairs.items in
    let from = c.free_ports.result + 3 * c.len.result in
    let o : met_by met.back.items c.args.y.0 ≡ None =
    (let v = c.deref.ensures.value in let e = c.met_by.ensures in let i = c.in_default.is in cc) in
    let like : c.is_like.result ≡ true = (let f = c.if-not-is_like.false in cc) in
    let k : kind_at a.nodes c.args.x.0 ≡ kind_at b.nodes c.args.y.0 =
    sym c.kind_of.ensures.table ∙ c.is_like.ensures.0 like ∙ c.kind_of-2.ensures.table in
    let e : had ≡ met.pairs.items ++ (c.args.x.0, c.args.y.0) ∷ [] =
    c.in_ok-put_pair.ensures.pairs ∙ ap (λ (ps : List (ℕ × ℕ)). ps ++ (c.args.x.0, c.args.y.0) ∷ []) c.in_ok-more.ensures.pairs in
    let meets = meets_new a b met.pairs.items met.there.items met.back.items c.requires.tables.tell c.args.x.0 c.args.y.0
    had c.requires.alone o k e in
    let size : c.len.result ≡ length met.pairs.items = search rules in
    let from_is : from ≡ a.free + 3 * length met.pairs.items = omega (arith, size, c.free_ports.ensures.free) in
    let g = subst (λ (o : Option (Port × Port)). Finds a b from had o c.walk.new.met.pairs.items) c.in-None.is c.in_ok-walk.ensures.found in
    let w = seeded_by a b c.is_tabled.ensures.tables c.is_tabled-2.ensures.tables met.pairs.items
    met.there.items met.back.items c.requires.tables.tell c.args.x.0 c.requires.alone c.requires.there c.args.y.0
    had from o k e from_is c.requires.walked in
    (search rules, (c.requires.free, (c.in_ok-walk.ensures.tables, has_walked a b from had w _ _ g)))

pub try_pair-returns-clause-found : goal.try_pair-returns-clause-found
try_pair-returns-clause-found t c =
    let a = c.args.a.now in
    let b = c.args.b.now in
    let met = c.args.met.now in
    let had = c.put_pair.new.met.pairs.items in
    let from = c.free_ports.result + 3 * c.len.result in
    let o : met_by met.back.items c.args.y.0 ≡ None =
    (let v = c.deref.ensures.value in let e = c.met_by.ensures in let i = c.in_default.is in cc) in
    let like : c.is_like.result ≡ true = (let f = c.if-not-is_like.false in cc) in
    let k : kind_at a.nodes c.args.x.0 ≡ kind_at b.nodes c.args.y.0 =
    sym c.kind_of.ensures.table ∙ c.is_like.ensures.0 like ∙ c.kind_of-2.ensures.table in
    let e : had ≡ met.pairs.items ++ (c.args.x.0, c.args.y.0) ∷ [] =
    c.in_ok-put_pair.ensures.pairs ∙ ap (λ (ps : List (ℕ × ℕ)). ps ++ (c.args.x.0, c.args.y.0) ∷ []) c.in_ok-more.ensures.pairs in
    let meets = meets_new a b met.pairs.items met.there.items met.back.items c.requires.tables.tell c.args.x.0 c.args.y.0
    had c.requires.alone o k e in
    let g = subst (λ (o : Option (Port × Port)). Finds a b from had o c.walk.new.met.pairs.items) c.in-None.is c.in_ok-walk.ensures.found in
    let may : MayMeet a b met.pairs.items c.args.x.0 c.args.y.0 = (
      are_new a b met.pairs.items met.there.items
          met.back.items c.requires.tables.tell c.args.x.0 c.args.y.0 c.requires.alone o,
      k,
    ) in
    let size : c.len.result ≡ length met.pairs.items = search rules in
    let from_is : from ≡ a.free + 3 * length met.pairs.items = omega (arith, size, c.free_ports.ensures.free) in
    let some : c.args.tries.now ≢ 0 = c.if-tries-eq0.false in
    let less : (c.args.tries.now - 1) + 1 ≡ c.args.tries.now = omega (arith, some) in
    searched_on a b met.pairs.items c.args.x.0 c.args.y.0 may had from e from_is c.walk.new.met.pairs.items g
    (λ none. take_apart a b c.is_tabled.ensures.tables c.is_tabled-2.ensures.tables met.pairs.items
    met.there.items met.back.items c.requires.tables.tell c.args.x.0 c.requires.alone c.requires.there c.args.y.0
    had from (a.free + 3 * length c.walk.new.met.pairs.items) c.walk.new.met.pairs.items meets g none)
    c.args.tries.now (c.args.tries.now - 1) c.seek.new.tries less
    c.in_ok-found-in-None.found c.in_ok-found-in-None.ensures.found
