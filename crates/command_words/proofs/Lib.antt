mod InRange
mod Marks
mod Names
mod Numbers
mod Spelled
