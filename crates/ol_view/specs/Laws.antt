-- The laws of shown nets: what is shown depends on the net alone, and so does what leads lead to.
use Rattle.std.specs.Prelude.{◌≡◌, ℕ, length}
use Rattle.ol_net.specs.Graph.{Graph, IsTabled}
use Rattle.ol_net.specs.Nets.{IsNet, SameNet}
use Rattle.ol_net.specs.Numbered.{net_of}
use Rattle.ol_view.specs.Leads.{IsAfterLeads}
use Rattle.ol_view.specs.ShowTexts.{show_text}

-- the graph's tables are those of a net
abbrev pub IsTable : Graph → Type 0
IsTable g = IsTabled g.free g.nodes g.partners

-- Equal nets are shown alike, in whatever order their tables list them, and whatever numbers are gone.
abbrev pub EqualNetsAreShownAlike : Type 0
EqualNetsAreShownAlike = (g h : Graph) → IsTable g → IsTable h →
    SameNet (net_of g) (net_of h) → show_text g ≡ show_text h

-- As many leads at most from equal nets, the next number of which is the same, are as many steps, and
-- lead to equal nets.
abbrev pub LeadsAreOne : Type 0
LeadsAreOne = (old old' new new' : Graph) (k steps steps' : ℕ) → IsNet (net_of old) →
    SameNet (net_of old) (net_of old') → length old.nodes ≡ length old'.nodes →
    IsTable new → IsTable new' → IsAfterLeads old k new steps → IsAfterLeads old' k new' steps' →
    (steps ≡ steps') × SameNet (net_of new) (net_of new')
