mod TableRows
mod HandOver
