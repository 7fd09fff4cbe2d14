use Rattle.std.proofs.Common.{rules, ◌≡◌, ◌≢◌, ◌∙◌, ◌+◌, ◌<◌, List, Some, length, get_or, slice_get}
use Rattle.std.proofs.Common.{slice_set, refl, sym, ap, subst}
use Rattle.std.proofs.lemmas.List.{length-set}
use Rattle.std.proofs.lemmas.List.Elements.{All-set}
use Rattle.std.proofs.lemmas.Option.{slice_get_read}
use Rattle.ol_pool.specs.Looks.{Tells, part_at}
use Rattle.ol_pool.specs.Owned.{ReachState, IsReach, reach_part}
use Rattle.ol_pool.specs.Handed.{pool_of, parts_of}
use Rattle.ol_pool.specs.Pools.{HandState, PoolState, part_of}
use Rattle.ol_pool.proofs.Places.{map_set, all_at, number_within, others_stay, new_there, other_here, reach_here}
use Rattle.ol_pool.proofs.hands.Hand.look_away.Goals as goal

pub invariant_of-self : goal.invariant_of-self
invariant_of-self c =
    let h = c.self.inside in
    let others : List ReachState = h.others.items in
    let old : ReachState = c.index_mut-reach.result.now in
    let new : ReachState = c.look.new.self in
    let i = c.self.invariant.0 in
    let long : length others ≡ c.args.pool.now.hands = ap
    (λ (s : HandState). s.pool.hands) c.self.view_is ∙ ap (λ (p : PoolState). p.hands) c.requires.hand in
    let below : c.args.at < length others = subst (λ n. c.args.at < n) (sym long) c.requires.part in
    let read : old ≡ get_or others c.args.at old = search rules in
    let got : slice_get others c.args.at ≡ Some old = slice_get_read others
    (length others) c.args.at old refl below read in
    let known = all_at (IsReach h.home.own.log.bound) others c.args.at old got i.others in
    let same = map_set (λ (r : ReachState). r.deque) others c.args.at old new got c.look.ensures.deque in (
      record {
        deque = ap (λ l. slice_get l h.number) same ∙ i.deque;
        others = All-set (IsReach h.home.own.log.bound) others c.args.at new
            (subst (λ b. IsReach b new) known.1 c.look.ensures.open) i.others;
        parts = ap (λ n. h.home.own.log.parts + n) (length-set others c.args.at new) ∙ i.parts;
      },
      c.self.invariant.1,
    )

pub returns-clause-tells : goal.returns-clause-tells
returns-clause-tells c =
    let h = c.self.inside in
    let others : List ReachState = h.others.items in
    let old : ReachState = c.index_mut-reach.result.now in
    let new : ReachState = c.look.new.self in
    let i = c.self.invariant.0 in
    let long : length others ≡ c.args.pool.now.hands = ap
    (λ (s : HandState). s.pool.hands) c.self.view_is ∙ ap (λ (p : PoolState). p.hands) c.requires.hand in
    let below : c.args.at < length others = subst (λ n. c.args.at < n) (sym long) c.requires.part in
    let read : old ≡ get_or others c.args.at old = search rules in
    let got : slice_get others c.args.at ≡ Some old = slice_get_read others
    (length others) c.args.at old refl below read in
    let apart : c.args.at ≢ h.number = λ e. c.requires.other (e ∙ ap (λ (s : HandState). s.number) c.self.view_is) in
    let within = number_within h.number h.home.own others i.deque in
    let was : part_of c.args.self.now c.args.at ≡ reach_part old = ap
    (λ (s : HandState). part_of s c.args.at) (sym c.self.view_is)
    ∙ other_here h.number h.home.own h.home.empties others within c.args.at apart
    ∙ reach_here others c.args.at old got in
    let is = new_there h.number h.home.own h.home.empties others within c.args.at new below apart in
    subst (λ x. Tells c.look.result x (part_at
    (parts_of h.number h.home.own h.home.empties (slice_set others c.args.at new)) c.args.at))
    (sym was) (subst (λ y. Tells c.look.result (reach_part old) y) (sym is) c.look.ensures.tells)

pub returns-clause-others : goal.returns-clause-others
returns-clause-others c = λ q n.
    let h = c.self.inside in
    others_stay h.number h.home.own h.home.empties h.others.items
    (number_within h.number h.home.own h.others.items c.self.invariant.0.deque) c.args.at c.look.new.self q n
    ∙ ap (λ (s : HandState). part_of s q) c.self.view_is

pub returns-clause-rest : goal.returns-clause-rest
returns-clause-rest c =
    let h = c.self.inside in
    let others : List ReachState = h.others.items in
    let old : ReachState = c.index_mut-reach.result.now in
    let new : ReachState = c.look.new.self in
    let long : length others ≡ c.args.pool.now.hands = ap
    (λ (s : HandState). s.pool.hands) c.self.view_is ∙ ap (λ (p : PoolState). p.hands) c.requires.hand in
    let below : c.args.at < length others = subst (λ n. c.args.at < n) (sym long) c.requires.part in
    let read : old ≡ get_or others c.args.at old = search rules in
    let got : slice_get others c.args.at ≡ Some old = slice_get_read others
    (length others) c.args.at old refl below read in
    let hands = length-set others c.args.at new in
    let deques = map_set (λ (r : ReachState). r.deque) others c.args.at old new got c.look.ensures.deque in
    let same : pool_of h.home.own (slice_set others c.args.at new) ≡ pool_of h.home.own
    others = λ i. record { hands = hands i; cells = h.home.own.log.bound; deques = deques i } in
    let number = ap (λ (s : HandState). s.number) c.self.view_is in
    let pool = same ∙ ap (λ (s : HandState). s.pool) c.self.view_is in
    let sent = ap (λ (s : HandState). s.sent) c.self.view_is in
    let refused = ap (λ (s : HandState). s.refused) c.self.view_is in
    let missed = ap (λ (s : HandState). s.missed) c.self.view_is in
    let stage = ap (λ (s : HandState). s.stage) c.self.view_is in
    λ i. record {
      number = number i;
      pool = pool i;
      sent = sent i;
      parts = parts_of h.number h.home.own h.home.empties (slice_set others c.args.at new);
      refused = refused i;
      stage = stage i;
      missed = missed i;
    }
