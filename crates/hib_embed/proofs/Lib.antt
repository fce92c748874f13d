mod Comes
mod Served
mod Worded
