mod Numbers
mod OldWords
mod Plain
mod Reading
mod Rows
mod Taken
mod Values
mod Walks
