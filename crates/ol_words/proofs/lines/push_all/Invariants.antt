use Rattle.std.proofs.Common.{◌≡◌, ◌++◌, map, take}
use Rattle.ol_words.specs.Texts.{texts_of}
use Rattle.ol_words.proofs.lines.push_all.Given as goal

abbrev pub invariant-loop-word : goal.invariant-loop-word
invariant-loop-word l = map (λ n. n.now) l.names.items ≡ map
    (λ n. n.now) l.fn.names.items ++ texts_of (take l.word-index l.words)
