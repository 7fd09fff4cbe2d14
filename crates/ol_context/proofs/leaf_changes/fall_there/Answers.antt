use Rattle.std.proofs.Common.{Some, sym, subst}
use Rattle.ol_net.specs.declared.parts.Kind.{Kind}
use Rattle.ol_context.specs.Shapes.{context_of}
use Rattle.ol_context.specs.Open.{reading}
use Rattle.ol_context.specs.Leaves.{LeafHasMoved, seen}
use Rattle.ol_context.proofs.LeafMoves.{moved_lam, moved_app}
use Rattle.ol_context.proofs.leaf_changes.fall_there.Goals as goal

pub returns-in-Lam-clause-held : goal.returns-in-Lam-clause-held
returns-in-Lam-clause-held c = (c.requires.held.0, c.unmark.ensures.held c.args.values.now c.requires.held.1)

pub returns-in-Lam-clause-moved : goal.returns-in-Lam-clause-moved
returns-in-Lam-clause-moved c =
    subst (λ (k : Kind). LeafHasMoved k c.args.leaf.now.at 0 c.args.values.now c.args.values.now
    c.args.levels.now.items c.args.levels.now.items c.args.leaf.now c.unmark.new.leaf
    c.unmark.result) (sym c.in-Lam.is) (moved_lam c.args.leaf.now.at
    (reading c.args.values.now c.args.levels.now.items (Some (seen c.args.leaf.now)))
    (reading c.args.values.now c.args.levels.now.items (Some (seen c.unmark.new.leaf)))
    (context_of c.args.values.now c.args.levels.now.items) c.unmark.result
    (c.unmark.ensures.moved c.args.values.now c.args.levels.now.items))

pub returns-in-App-clause-held : goal.returns-in-App-clause-held
returns-in-App-clause-held c = (c.requires.held.0, c.unmark-in-App.ensures.held c.args.values.now c.requires.held.1)

pub returns-in-App-clause-moved : goal.returns-in-App-clause-moved
returns-in-App-clause-moved c =
    subst (λ (k : Kind). LeafHasMoved k c.args.leaf.now.at 0 c.args.values.now c.args.values.now
    c.args.levels.now.items c.args.levels.now.items c.args.leaf.now c.unmark-in-App.new.leaf
    c.unmark-in-App.result) (sym c.in-App.is)
    (moved_app c.args.leaf.now.at (reading c.args.values.now c.args.levels.now.items
    (Some (seen c.args.leaf.now))) (reading c.args.values.now c.args.levels.now.items
    (Some (seen c.unmark-in-App.new.leaf)))
    (context_of c.args.values.now c.args.levels.now.items) c.unmark-in-App.result
    (c.unmark-in-App.ensures.moved c.args.values.now c.args.levels.now.items))

pub returns-in-Fan-clause-held : goal.returns-in-Fan-clause-held
returns-in-Fan-clause-held c = (c.requires.held.0, c.unmark-in-Fan.ensures.held c.args.values.now c.requires.held.1)

pub returns-in-Fan-clause-moved : goal.returns-in-Fan-clause-moved
returns-in-Fan-clause-moved c =
    subst (λ (k : Kind). LeafHasMoved k c.args.leaf.now.at 0 c.args.values.now c.args.values.now
    c.args.levels.now.items c.args.levels.now.items c.args.leaf.now c.unmark-in-Fan.new.leaf
    c.unmark-in-Fan.result) (sym c.in-Fan.is)
    (c.unmark-in-Fan.ensures.moved c.args.values.now c.args.levels.now.items)

pub returns-in-Croissant-clause-moved : goal.returns-in-Croissant-clause-moved
returns-in-Croissant-clause-moved c =
    subst (λ (k : Kind). LeafHasMoved k c.args.leaf.now.at 0 c.args.values.now c.args.values.now
    c.args.levels.now.items c.args.levels.now.items c.args.leaf.now c.args.leaf.now
    c.unput.result) (sym c.in-Croissant.is) (c.unput.ensures c.args.values.now c.args.levels.now.items)

pub returns-in_ok-fallen-in-Bracket-clause-moved : goal.returns-in_ok-fallen-in-Bracket-clause-moved
returns-in_ok-fallen-in-Bracket-clause-moved c =
    subst (λ (k : Kind). LeafHasMoved k c.args.leaf.now.at 0 c.args.values.now c.args.values.now
    c.args.levels.now.items c.unpack.new.levels.items c.args.leaf.now c.unpack.new.leaf
    c.in_ok-fallen-in-Bracket.fallen) (sym c.in-Bracket.is) c.in_ok-fallen-in-Bracket.ensures.moved
