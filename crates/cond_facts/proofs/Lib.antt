mod Differing
mod Forming
mod Gathering
mod Numbering
mod Meeting
mod Fronts
mod ReferenceTerms
mod Deriving
mod Valuing
mod Naming
mod Collected
mod Rounds
mod Unclashed
mod Opposing
pub mod Standing
pub mod FactLaws
mod FormTelling
mod NarrowRows
pub mod Fitted
pub mod Firsts
mod Answered
