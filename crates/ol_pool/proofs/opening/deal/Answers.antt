use Rattle.std.proofs.Common.{rules, ◌≡◌, ◌∙◌, ◌++◌, ◌∷◌, [], List, Vec, Global, Option, IfSome}
use Rattle.std.proofs.Common.{length, vec_len, reverse, refl, sym, ap, subst, arith}
use Rattle.std.specs.Prelude.{option_to_list}
use Rattle.std.proofs.lemmas.List.Elements.{All-pop}
use Rattle.ol_pool.specs.Owned.{OwnState, ReachState, row_of}
use Rattle.ol_pool.specs.Handed.{IsHand, new_hand}
use Rattle.ol_pool.proofs.Dealing.{dealt, dealt_long, hand_is, are_dealt, snoc_append, long_snoc, one_dealt, all_dealt}
use Rattle.ol_pool.proofs.opening.deal.Goals as goal

pub new-hand-requires : goal.new-hand-requires
new-hand-requires c =
    let pool = c.args.pool.now in
    let own : OwnState = c.in-Some.own in
    let less : List OwnState = c.pop.new.self.items in
    let i = c.loop-own.invariant in
    let split : c.loop-own.owns.items ≡ less ++ own ∷ [] = c.pop.ensures.items
    ∙ ap (λ (r : Option OwnState). less ++ option_to_list r) c.in-Some.is in
    let whole = i.0.1 ∙ ap (λ l. l ++ i.0.0) split ∙ snoc_append less i.0.0 own in
    let t = All-pop (λ (row : Vec ReachState Global).
    row.items ≡ row_of pool) c.loop-own.rows.items c.pop-in-Some.new.self.items
    c.pop-in-Some.result c.pop-in-Some.ensures.items i.1 in
    let row : c.unwrap-others.result.items ≡ row_of pool = subst
    (λ (r : Option (Vec ReachState Global)).
    IfSome r (λ row. row.items ≡ row_of pool)) c.unwrap-others.ensures t.1 in
    let number : c.len.result ≡ length less = search rules in
    subst (λ l. IsHand c.len.result own l) (sym row)
    (subst (λ n. IsHand n own (row_of pool)) (sym number)
    (hand_is pool c.args.owns.items less i.0.0 own whole c.requires.owns c.requires.hands.0 c.requires.hands.1))

pub loop-own-preserved : goal.loop-own-preserved
loop-own-preserved c =
    let pool = c.args.pool.now in
    let own : OwnState = c.in-Some.own in
    let less : List OwnState = c.pop.new.self.items in
    let i = c.loop-own.invariant in
    let split : c.loop-own.owns.items ≡ less ++ own ∷ [] = c.pop.ensures.items
    ∙ ap (λ (r : Option OwnState). less ++ option_to_list r) c.in-Some.is in
    let whole = i.0.1 ∙ ap (λ l. l ++ i.0.0) split ∙ snoc_append less i.0.0 own in
    let t = All-pop (λ (row : Vec ReachState Global).
    row.items ≡ row_of pool) c.loop-own.rows.items c.pop-in-Some.new.self.items
    c.pop-in-Some.result c.pop-in-Some.ensures.items i.1 in
    let row : c.unwrap-others.result.items ≡ row_of pool = subst
    (λ (r : Option (Vec ReachState Global)).
    IfSome r (λ row. row.items ≡ row_of pool)) c.unwrap-others.ensures t.1 in
    let taken : length (option_to_list c.pop-in-Some.result) ≡ 1 = subst
    (λ (r : Option (Vec ReachState Global)). length (option_to_list r) ≡ 1) (sym c.unwrap-others.ensures) refl in
    let added : c.push.new.self.items ≡ c.loop-own.hands.items ++ c.new-hand.result ∷ [] = search rules in
    let number : c.len.result ≡ length less = search rules in
    let hand : c.new-hand.result ≡ new_hand (length less) own (row_of pool) =
    c.new-hand.ensures ∙ ap (λ n. new_hand n own c.unwrap-others.result.items) number
    ∙ ap (λ l. new_hand (length less) own l) row in
    let long = ap length split ∙ long_snoc less own in (
      (own ∷ i.0.0, whole),
      t.0,
      omega (arith, i.2, taken, long, c.pop-in-Some.ensures.len),
      one_dealt pool c.loop-own.owns.items less own c.loop-own.hands.items c.push.new.self.items
          (dealt pool 0 c.args.owns.items) c.new-hand.result split hand added i.3,
    )

pub returns-clause-each : goal.returns-clause-each
returns-clause-each c =
    let pool = c.args.pool.now in
    let i = c.loop-own.invariant in
    let none : c.loop-own.owns.items ≡ [] = search rules in
    let turned : c.reverse.new.self.items ≡ reverse c.loop-own.hands.items = c.reverse.ensures.items in
    are_dealt pool c.args.owns.items c.reverse.new.self.items c.requires.owns c.requires.hands.0
    (all_dealt pool c.loop-own.owns.items c.loop-own.hands.items c.reverse.new.self.items
    (dealt pool 0 c.args.owns.items) none i.3 turned)

pub returns-clause-count : goal.returns-clause-count
returns-clause-count c =
    let pool = c.args.pool.now in
    let i = c.loop-own.invariant in
    let none : c.loop-own.owns.items ≡ [] = search rules in
    let turned : c.reverse.new.self.items ≡ reverse c.loop-own.hands.items = c.reverse.ensures.items in
    let made : vec_len c.reverse.new.self ≡ length c.reverse.new.self.items = search rules in
    let owns : length c.args.owns.items ≡ vec_len c.args.owns = search rules in
    made ∙ ap length (all_dealt pool c.loop-own.owns.items c.loop-own.hands.items
    c.reverse.new.self.items (dealt pool 0 c.args.owns.items) none i.3 turned)
    ∙ dealt_long pool 0 c.args.owns.items ∙ owns
