-- Private: what is asked of a frame while it is searched for.
use Rattle.std.specs.Prelude.{◌≡◌, ℕ, List, take}
use Rattle.ol_net.specs.Graph.{Graph}
use Rattle.ol_net.specs.Numbered.{net_of}
use Rattle.ol_context.specs.Contexts.{Level}
use Rattle.ol_readback.specs.Frames.{frames_of}
use Rattle.ol_readback.specs.Heads.{IsHeadWithin, answer_of}
use Rattle.ol_readback.specs.declared.answers.Head.{Head}
use Rattle.ol_readback.specs.declared.answers.Head.TheVariants as head
use Rattle.ol_readback.specs.declared.frames.Frame.{Frame}

-- it is what frame i has within so many crossings
abbrev pub IsAsked : Graph → List Level → List Frame → ℕ → ℕ → List Level → Head → Type 0
IsAsked g old fs i edges new h = IsHeadWithin (net_of g) (frames_of old fs) i edges (answer_of new h)

-- the values after a call that answers h: all of them where a head was found, else the first ones alone, as many
abbrev pub KeepsFirst : ℕ → List Level → List Level → Head → Type 0
KeepsFirst count old new (head.Is lams v args at) = new ≡ old
KeepsFirst count old new head.NoHead = new ≡ take count old
KeepsFirst count old new head.Budget = new ≡ take count old
