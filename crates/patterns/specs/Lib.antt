-- Numbers, patterns and the grammar that a pattern stands for.
pub mod Texts
pub mod Numbers
pub mod Patterns
pub mod Grammar
