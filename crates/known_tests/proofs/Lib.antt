pub mod SiteLines
pub mod KnownParts
mod SameTexts
mod KnownWidths
mod Driven
mod ZeroLemmas
