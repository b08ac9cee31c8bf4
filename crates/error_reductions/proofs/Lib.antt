mod CountsWithin
mod Asking
mod Variables
mod MainScope
mod Conjuncts
mod SubqueryRows
