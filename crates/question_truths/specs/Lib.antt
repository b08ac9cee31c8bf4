pub mod AtMostOne
pub mod SubqueryFits
pub mod Room
