-- The law of what a printed tree says of its term.
use Rattle.ol_law_meaning.proofs.meaning.Goals as goal
use Rattle.ol_law_meaning.proofs.Based.{tree_shows, shown_reduct, shown_normal, shown_endless, places_say}

pub returns-clause-shows : goal.returns-clause-shows
returns-clause-shows g = λ τ t names h b T r. tree_shows τ t names h b T r

pub returns-clause-reduct : goal.returns-clause-reduct
returns-clause-reduct g = λ t b T h. shown_reduct t b T h

pub returns-clause-normal : goal.returns-clause-normal
returns-clause-normal g = λ t b T h a. shown_normal t b T h a

pub returns-clause-endless : goal.returns-clause-endless
returns-clause-endless g = λ t T h k v r n. shown_endless t T h k v r n

pub returns-clause-places : goal.returns-clause-places
returns-clause-places g = λ τ t names h b T ns e r. places_say τ t names h b T ns e r
