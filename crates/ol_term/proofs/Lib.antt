pub mod Indexing
pub mod Binders
pub mod BinderTexts
pub mod Items
pub mod Doubling
pub mod NamePlaces
