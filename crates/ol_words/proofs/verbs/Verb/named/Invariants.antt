use Rattle.std.proofs.Common.{◌≡◌, drop, find}
use Rattle.std.specs.Str.{bytes_eq}
use Rattle.ol_words.specs.Asked.{verb_named, verb_row}
use Rattle.ol_words.proofs.verbs.Verb.named.Given as goal

abbrev pub invariant-loop-verb : goal.invariant-loop-verb
invariant-loop-verb l = find (λ v. bytes_eq (verb_row v).word l.word) (drop l.verb-index l.verb-items) ≡ verb_named l.word
