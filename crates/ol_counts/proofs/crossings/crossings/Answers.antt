use Rattle.std.proofs.Common.{ℕ, ◌*◌, [], ◌∷◌, subst}
use Rattle.std.proofs.lemmas.Option.{MatchOption-at_some}
use Rattle.ol_net.specs.Numbered.{net_of}
use Rattle.ol_readback.specs.ReadTrees.{whole_term}
use Rattle.ol_counts.specs.Crossings.{AreReadBy}
use Rattle.ol_counts.proofs.ReadingCounted.{read_to_end, read_from}
use Rattle.ol_counts.proofs.crossings.crossings.Goals as goal

pub read-requires-clause-begins : goal.read-requires-clause-begins
read-requires-clause-begins c = read_from c.args.net.now _ _ c.args.heads

pub returns : goal.returns
returns c =
    let w = MatchOption-at_some _ _ c.in-Some._places c.in-Some.is c.in_ok-_places.ensures.read in
    subst (λ (n : ℕ). AreReadBy (net_of c.args.net.now) c.args.heads (2 * n) [] (whole_term ∷ [])
    c.read.new.asker.crossings) c.nodes.ensures.nodes
    (read_to_end c.args.net.now _ _ _ _ c.args.heads w.0 _ w.1 w.2)
