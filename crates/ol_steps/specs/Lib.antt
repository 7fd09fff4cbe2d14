-- What clauses of public functions rest on.
pub mod Terms
pub mod NamedTexts
pub mod Marks
pub mod Lettered
pub mod TextLaws
pub mod Binders
pub mod Contraction
pub mod Naming
pub mod Trees
pub mod BinderLaws
pub mod Fronts
pub mod Lets
pub mod Folded
pub mod Words
pub mod ValueTrees
pub mod LetLaws
pub mod Steps
pub mod StepLaws
pub mod Unfoldings
-- What only contracts of private functions and proofs cite.
pub mod Rounds
pub mod Sights
pub mod Looks
pub mod SeenTokens
pub mod Scanned
pub mod EarlierTerms
