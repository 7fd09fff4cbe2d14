use Rattle.ol_parse.specs.Texts.{letter}
use Rattle.ol_places.proofs.Lengths.{length_exact}
use Rattle.ol_places.proofs.tokens.token_length.Goals as goal

pub returns-in-Letter-clause-exact : goal.returns-in-Letter-clause-exact
returns-in-Letter-clause-exact c =
    length_exact c.args.rest.now letter c.word_length.result c.in-Letter.ensures c.word_length.ensures.length
