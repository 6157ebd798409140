-- That a step changes no word that its mark does not name.
pub mod Marks
