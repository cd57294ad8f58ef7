mod KindFacts
mod WordSorts
pub mod ValueSorts
pub mod StmtSorts
pub mod UnitSorts
pub mod FixedSorts
